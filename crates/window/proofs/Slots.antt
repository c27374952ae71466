-- Three slots used in turn: what reading slot (start + i) % 3, writing it and moving the start on by one are in the list that begins at the
-- start. Each is checked at every start with the slots' contents unknown; the rest is about lists. Assumes nothing.
use Prim.Native.Nat.{ℕ, zero, suc, ◌+◌, ◌-◌, ◌%◌, ◌<◌, ◌≤◌, min}
use mathlib.Core.Path.{◌≡◌, refl, sym}
use mathlib.Core.List.{List, [], ◌∷◌, ◌++◌}
use native.Mathlib.Omega.{arith}
use lib.ListN.{length, take, drop, set, get_or, length-take, length-set}
use lib.Seq.{take-suc, take-suc-set, get_or-take}
use Rattle.endpoint.specs.declared.EndpointData.{EndpointData}
use Rattle.window.specs.Window.{rotated, held, items, last_three, last_replaced}
use Rattle.window.specs.declared.buffer.PointBuffer.{PointBuffer}
use Rattle.window.proofs.Laws.{last_three_room, last_replaced_snoc}

below_three : (P : ℕ → Type 0) → P 0 × P 1 × P 2 → (n : ℕ) → n < 3 → P n
below_three P h zero k = h.0
below_three P h (suc zero) k = h.1
below_three P h (suc (suc zero)) k = h.2
below_three P h (suc (suc (suc n))) k = absurd (omega arith)

module _ {A : Type 0} where
  three : (P : List A → Type 0) → ((a b c : A) → P (a ∷ b ∷ c ∷ [])) → (p : List A) → length p ≡ 3 → P p
  three P f [] l = absurd (omega arith)
  three P f (a ∷ []) l = absurd (omega arith)
  three P f (a ∷ b ∷ []) l = absurd (omega arith)
  three P f (a ∷ b ∷ c ∷ []) l = f a b c
  three P f (a ∷ b ∷ c ∷ d ∷ r) l = absurd (omega arith)

  -- three slots, three starts
  starts : (P : List A → ℕ → Type 0) → ((a b c : A) → let p = a ∷ b ∷ c ∷ [] in P p 0 × P p 1 × P p 2)
      → (p : List A) → length p ≡ 3 → (s : ℕ) → s < 3 → P p s
  starts P f p l s k = below_three (P p) (three (λ (q : List A). P q 0 × P q 1 × P q 2) f p l) s k

  -- and three slots to read or write
  slots : (P : List A → ℕ → ℕ → Type 0)
      → ((a b c : A) → let p = a ∷ b ∷ c ∷ [] in (P p 0 0 × P p 0 1 × P p 0 2) × (P p 1 0 × P p 1 1 × P p 1 2) × (P p 2 0 × P p 2 1 × P p 2 2))
      → (p : List A) → length p ≡ 3 → (s : ℕ) → s < 3 → (i : ℕ) → i < 3 → P p s i
  slots P f p l s k i h = below_three (P p s) (starts (λ (q : List A) (t : ℕ). P q t 0 × P q t 1 × P q t 2) f p l s k) i h

  length_rotated : (p : List A) → length p ≡ 3 → (s : ℕ) → s < 3 → length (rotated p s) ≡ 3
  length_rotated = starts (λ (p : List A) (s : ℕ). length (rotated p s) ≡ 3) (λ a b c. (refl, refl, refl))

  rotated_next : (p : List A) → length p ≡ 3 → (s : ℕ) → s < 3 → rotated p ((s + 1) % 3) ≡ drop 1 (rotated p s) ++ take 1 (rotated p s)
  rotated_next = starts (λ (p : List A) (s : ℕ). rotated p ((s + 1) % 3) ≡ drop 1 (rotated p s) ++ take 1 (rotated p s)) (λ a b c. (refl, refl, refl))

  get_d_rotated : (d : A) (p : List A) → length p ≡ 3 → (s : ℕ) → s < 3 → (i : ℕ) → i < 3 → get_or (rotated p s) i d ≡ get_or p ((s + i) % 3) d
  get_d_rotated d =
      slots (λ (p : List A) (s : ℕ) (i : ℕ). get_or (rotated p s) i d ≡ get_or p ((s + i) % 3) d)
      (λ a b c. ((refl, refl, refl), (refl, refl, refl), (refl, refl, refl)))

  rotated_set : (e : A) (p : List A) → length p ≡ 3 → (s : ℕ) → s < 3 → (i : ℕ) → i < 3 → rotated (set p ((s + i) % 3) e) s ≡ set (rotated p s) i e
  rotated_set e =
      slots (λ (p : List A) (s : ℕ) (i : ℕ). rotated (set p ((s + i) % 3) e) s ≡ set (rotated p s) i e)
      (λ a b c. ((refl, refl, refl), (refl, refl, refl), (refl, refl, refl)))

-- ---- a window, whose slots are three
module _ (w : PointBuffer) (l : length w.points ≡ 3) where
  abbrev turn : List EndpointData
  turn = rotated w.points (w.start % 3)

  length_turn : length turn ≡ 3
  length_turn = length_rotated w.points l (w.start % 3) (omega arith)

  pub length_held : length (items w) ≡ min w.count 3
  unfolding held
  length_held =
      let q = length_turn in
      simp (length-take, q) (omega arith)

  pub get_d_held : (d : EndpointData) (i at : ℕ) → i < length (items w) → at ≡ (w.start + i) % 3 → get_or (items w) i d ≡ get_or w.points at d
  unfolding held
  get_d_held d i at h e =
      let n = length_held in
      let a : at ≡ (w.start % 3 + i) % 3 = omega arith in
      rw (get_or-take (min w.count 3) turn i d (omega arith), get_d_rotated d w.points l (w.start % 3) (omega arith) i (omega arith), a)

  module _ (e : EndpointData) where
    held_set : (i at n : ℕ) → i < 3 → at ≡ (w.start + i) % 3 → held (set w.points at e) w.start n ≡ take (min n 3) (set turn i e)
    unfolding held
    held_set i at n h k =
        let a : at ≡ (w.start % 3 + i) % 3 = omega arith in
        rw (a, rotated_set e w.points l (w.start % 3) (omega arith) i h)

    module _ {n at : ℕ} (counted : n ≡ length (items w)) where
      pub pushed_room : at ≡ (w.start + n) % 3 → n < 3 → held (set w.points at e) w.start (n + 1) ≡ last_three (items w ++ (e ∷ []))
      unfolding held
      pushed_room k h =
          let q = length_turn in
          let m : min w.count 3 ≡ n = omega (arith, length_held) in
          let m' : min (n + 1) 3 ≡ suc n = omega arith in
          rw (held_set n at (n + 1) h k, m, m', take-suc-set turn n e (omega arith))
          (sym (last_three_room (take n turn) e (simp (length-take, q) (omega arith))))

      -- the slot after the newest of three is the oldest's, and the next is now the oldest
      pub pushed_full : {next : ℕ} → at ≡ (w.start + n) % 3 → next ≡ (w.start + 1) % 3 → 3 ≤ n
          → held (set w.points at e) next w.count ≡ last_three (items w ++ (e ∷ []))
      unfolding held last_three
      pushed_full {next} k j h =
          let s = w.start % 3 in
          let c : min w.count 3 ≡ 3 = omega (arith, length_held) in
          let a : at ≡ (s + 0) % 3 = omega (arith, length_held) in
          let b : next % 3 ≡ (s + 1) % 3 = omega arith in
          rw (c, b, rotated_next (set w.points at e) (simp length-set l) s (omega arith), a, rotated_set e w.points l s (omega arith) 0 (omega arith))
          (three (λ (q : List EndpointData). take 3 (drop 1 (set q 0 e) ++ take 1 (set q 0 e)) ≡ last_three (take 3 q ++ (e ∷ []))) (λ x y z. refl) turn length_turn)

      pub replaced_last : at ≡ (w.start + (n - 1)) % 3 → 0 < n → held (set w.points at e) w.start w.count ≡ last_replaced (items w) e
      unfolding held
      replaced_last k h =
          let q = length_turn in
          let m : min w.count 3 ≡ suc (n - 1) = omega (arith, length_held) in
          let i : n - 1 < length turn = omega (arith, length_held) in
          rw (held_set (n - 1) at w.count (omega arith) k, m, take-suc-set turn (n - 1) e i, take-suc turn (n - 1) e i)
          (sym (last_replaced_snoc (take (n - 1) turn) (get_or turn (n - 1) e) e))
