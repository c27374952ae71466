-- Laws of what is put at a place: what two writers put one behind the other is put by both, and what a lent part gets is put at its place. Assumes nothing.
use Prim.Native.Nat.{ℕ, zero, suc, ◌+◌, ◌-◌, ◌≤◌, ◌<◌}
use mathlib.Core.Path.{◌≡◌, refl, sym, ap, ◌∙◌}
use mathlib.Core.List.{List, [], ◌∷◌, ◌++◌}
use native.Mathlib.Omega.{arith}
use lib.ListN.{length, drop, set, length-append, length-drop}
use lib.Seq.{take-nil, drop-nil, drop-cons, set_split}
use borrow.Rule.Slice.PartMut.{mid_of, put_mid}
use Rattle.lines.specs.Placed.{over_from, Puts}
use Rattle.lists.specs.Over.{over}
use Rattle.lists.proofs.Parts.{part_is, put_is}

-- ---- one behind the other
over_none : (ws : List ℕ) → over ws [] ≡ []
unfolding over
over_none [] = refl
over_none (w ∷ ws) = refl

from_none : (k : ℕ) (ws : List ℕ) → over_from k ws [] ≡ []
from_none k ws = rw (take-nil k, drop-nil k) (over_none ws)

over_then : (ws vs xs : List ℕ) → over_from (length ws) vs (over ws xs) ≡ over (ws ++ vs) xs
unfolding over
over_then [] vs xs = refl
over_then (w ∷ ws) vs [] = over_none vs
over_then (w ∷ ws) vs (x ∷ xs) = ap (λ (l : List ℕ). w ∷ l) (over_then ws vs xs)

from_then : (k n : ℕ) (ws vs xs : List ℕ) → n ≡ k + length ws → over_from n vs (over_from k ws xs) ≡ over_from k (ws ++ vs) xs
from_then zero n ws vs xs e = let l : n ≡ length ws = omega arith in rw l (over_then ws vs xs)
from_then (suc k) n ws vs [] e = rw (over_none ws) (from_none n vs ∙ sym (over_none (ws ++ vs)))
from_then (suc k) zero ws vs (x ∷ xs) e = absurd (omega arith)
from_then (suc k) (suc n) ws vs (x ∷ xs) e = ap (λ (l : List ℕ). x ∷ l) (from_then k n ws vs xs (omega arith))

pub puts_then : {ws vs xs ys zs : List ℕ} {k i j : ℕ} → Puts ws k xs i ys → Puts vs i ys j zs → Puts (ws ++ vs) k xs j zs
puts_then {ws} {vs} {xs} {ys} {zs} {k} {i} {j} p q = record {
  behind = omega (arith, p.behind, q.behind, length-append ws vs);
  list = q.list ∙ rw p.list (from_then k i ws vs xs p.behind);
}

-- ---- a part that is lent
pub puts_part : (ws xs ys : List ℕ) (k n : ℕ) → k ≤ length xs → n ≡ length ws → ys ≡ over ws (mid_of k (length xs - k) xs)
    → Puts ws k xs (k + n) (put_mid k (length xs - k) xs ys)
puts_part ws xs ys k n h e q = record { behind = rw e; list = rw (put_is xs ys k h, q, part_is xs k h) }

-- a copy into a part that is as long
copied : (ws xs : List ℕ) → length ws ≤ length xs → ws ++ drop (length ws) xs ≡ over ws xs
unfolding over
copied [] xs h = refl
copied (w ∷ ws) [] h = absurd (omega arith)
copied (w ∷ ws) (x ∷ xs) h = ap (λ (l : List ℕ). w ∷ l) (copied ws xs (omega arith))

pub puts_copy : (ws xs ys : List ℕ) (k n : ℕ) → k + length ws ≤ length xs → n ≡ k + length ws → ys ≡ ws → Puts ws k xs n (put_mid k (n - k) xs ys)
puts_copy ws xs ys k n h e q =
    let m : n - k ≡ length ws = omega arith in
    let l : length ws ≤ length (drop k xs) = simp length-drop (omega arith) in
    record { behind = e; list = rw (m, q, copied ws (drop k xs) l) }

-- one byte
pub puts_byte : (xs : List ℕ) (k b : ℕ) → k < length xs → Puts (b ∷ []) k xs (k + 1) (set xs k b)
unfolding over
puts_byte xs k b h = record { behind = refl; list = set_split xs k b h ∙ rw (drop-cons xs k 0 h) }
