-- A part of a list, from its middle to its end, lent to a writer: what is written at k, and behind it, in turn. Assumes nothing.
use Prim.Native.Nat.{ℕ, ◌+◌, ◌-◌, ◌≤◌}
use mathlib.Core.Path.{◌≡◌, sym}
use mathlib.Core.List.{List, [], ◌++◌, append_assoc, append-nil}
use native.Mathlib.Omega.{arith}
use lib.ListN.{length, take, drop, length-drop}
use lib.Seq.{length-take-le, take-append-add, drop-append-add, take_all, drop-length, drop-drop}
use borrow.Rule.Slice.PartMut.{mid_of, put_mid}
use Rattle.lists.specs.Over.{over, put_at}
use Rattle.lists.proofs.Laws.{length_over, over_append, put_is_over}

module _ {A : Type 0} where
  take_past : (p q : List A) (k m : ℕ) → length p ≡ k → take (k + m) (p ++ q) ≡ p ++ take m q
  take_past p q k m l = rw (← l) (take-append-add p q m)

  drop_past : (p q : List A) (k m : ℕ) → length p ≡ k → drop (k + m) (p ++ q) ≡ drop m q
  drop_past p q k m l = rw (← l) (drop-append-add p q m)

  -- the part from k on, as the borrow checker states it, and the whole once the part is back
  pub part_is : (xs : List A) (k : ℕ) → k ≤ length xs → mid_of k (length xs - k) xs ≡ drop k xs
  part_is xs k h = take_all (length xs - k) (drop k xs) (simp length-drop (omega arith))

  pub put_is : (xs ys : List A) (k : ℕ) → k ≤ length xs → put_mid k (length xs - k) xs ys ≡ take k xs ++ ys
  put_is xs ys k h =
      let n : k + (length xs - k) ≡ length xs = omega arith in
      let z : drop (length xs - k) (drop k xs) ≡ [] = rw (drop-drop, n) (drop-length xs) in
      rw (z, append-nil)

  -- writing ws at k, and then the rest behind it, is writing both at k
  pub step : (v ws rest : List A) (k : ℕ) → k + length ws ≤ length v
      → take k v ++ over (ws ++ rest) (drop k v) ≡ take (k + length ws) (take k v ++ over ws (drop k v)) ++ over rest (drop (k + length ws) (take k v ++ over ws (drop k v)))
  step v ws rest k h =
      let p : List A = take k v in
      let q : List A = over ws (drop k v) in
      let l : length p ≡ k = length-take-le k v (omega arith) in
      rw (take_past p q k (length ws) l, drop_past p q k (length ws) l, over_append ws rest (drop k v) (simp length-drop (omega arith)))
      (sym (append_assoc p (take (length ws) q) (over rest (drop (length ws) q))))

  -- the same where a callee got the part from k on: what was to come is what is still to come
  pub turn : (v ys ws rest : List A) (k m : ℕ) → length ws ≡ m → k + m ≤ length v → ys ≡ over ws (mid_of k (length v - k) v)
      → take k v ++ over (ws ++ rest) (drop k v) ≡ take (k + m) (put_mid k (length v - k) v ys) ++ over rest (drop (k + m) (put_mid k (length v - k) v ys))
  turn v ys ws rest k m l h e =
      let r : k ≤ length v = omega arith in
      let e2 : put_mid k (length v - k) v ys ≡ take k v ++ over ws (drop k v) = rw (put_is v ys k r, e, part_is v k r) in
      rw (e2, ← l) (step v ws rest k (omega arith))

  -- two writers: the first at the start, the second in the part behind what the first wrote
  pub behind : (xs ys zs vs ws : List A) (k : ℕ) → length vs ≡ k → k ≤ length xs → ys ≡ over vs xs → zs ≡ over ws (mid_of k (length ys - k) ys)
      → put_mid k (length ys - k) ys zs ≡ over (vs ++ ws) xs
  behind xs ys zs vs ws k l h e f =
      let r : k ≤ length ys = rw (e, length_over vs xs) h in
      rw (put_is ys zs k r, f, part_is ys k r, e, ← l) (sym (over_append vs ws xs (omega arith)))

  -- what a callee wrote at the start of the part from k on stands at k
  pub put_part : (v ys ws : List A) (k : ℕ) → k ≤ length v → ys ≡ over ws (mid_of k (length v - k) v) → put_mid k (length v - k) v ys ≡ put_at k ws v
  put_part v ys ws k h e = rw (put_is v ys k h, e, part_is v k h) (sym (put_is_over k ws v))
