-- Elements written at a place of a list that may end before they do. Assumes nothing.
use Prim.Native.Nat.{ℕ, zero, suc, ◌-◌, ◌≤◌, min}
use mathlib.Core.Path.{◌≡◌, ap, ◌∙◌}
use mathlib.Core.List.{List, [], ◌∷◌}
use native.Mathlib.Omega.{arith}
use lib.ListN.{length}
use borrow.Rule.Slice.PartMut.{mid_of, put_mid}
use Rattle.lists.specs.Over.{over, put_at}
use Rattle.lists.proofs.Parts.{put_part}

module _ {A : Type 0} where
  -- from a place behind the end on, or from the end
  clamped : (k : ℕ) (vs xs : List A) → put_at (min k (length xs)) vs xs ≡ put_at k vs xs
  unfolding put_at over
  clamped zero vs xs = let e : min 0 (length xs) ≡ 0 = omega arith in ap (λ j. put_at j vs xs) e
  clamped (suc k) [] [] = let e : min (suc k) 0 ≡ 0 = omega arith in ap (λ (j : ℕ). put_at j [] []) e
  clamped (suc k) (v ∷ vs) [] = let e : min (suc k) 0 ≡ 0 = omega arith in ap (λ (j : ℕ). put_at j (v ∷ vs) []) e
  clamped (suc k) vs (x ∷ xs) =
      let e : min (suc k) (suc (length xs)) ≡ suc (min k (length xs)) = omega arith in
      ap (λ j. put_at j vs (x ∷ xs)) e ∙ ap (λ (l : List A). x ∷ l) (clamped k vs xs)

  -- what a callee wrote at the start of the part from there on
  pub put_clamped : (v ys ws : List A) (n k : ℕ) → k ≡ min n (length v) → ys ≡ over ws (mid_of k (length v - k) v) → put_mid k (length v - k) v ys ≡ put_at n ws v
  put_clamped v ys ws n k h e =
      let l : k ≤ length v = omega arith in
      put_part v ys ws k l e ∙ ap (λ j. put_at j ws v) h ∙ clamped n ws v
