-- A list written over the start of another element by element, whichever ends first. Assumes nothing.
use Prim.Native.Nat.{ℕ, zero, suc, ◌+◌, ◌≤◌, ◌<◌}
use mathlib.Core.Path.{◌≡◌, refl, sym, ap, ◌∙◌}
use mathlib.Core.List.{List, [], ◌∷◌, ◌++◌}
use native.Mathlib.Numerals.{add-one}
use native.Mathlib.Omega.{arith}
use lib.ListN.{length, take, get_or, set}
use lib.Seq.{length-take-le, take-suc, take-nil}
use Rattle.lists.specs.Over.{over}
use Rattle.lists.proofs.Laws.{over_next}

module _ {A : Type 0} where
  -- what is behind the end of a list is not written
  over_cut : (vs xs : List A) (i : ℕ) → length xs ≤ i → over (take i vs) xs ≡ over vs xs
  unfolding over
  over_cut [] xs i h = ap (λ (l : List A). over l xs) (take-nil i)
  over_cut (v ∷ vs) [] zero h = refl
  over_cut (v ∷ vs) [] (suc i) h = refl
  over_cut (v ∷ vs) (x ∷ xs) zero h = absurd (omega arith)
  over_cut (v ∷ vs) (x ∷ xs) (suc i) h = ap (λ (l : List A). v ∷ l) (over_cut vs xs i (omega arith))

  -- of vs, i are written over xs: one more
  pub over_more : (vs xs : List A) (i : ℕ) (v : A) → i < length vs → i < length xs → get_or vs i v ≡ v → set (over (take i vs) xs) i v ≡ over (take (i + 1) vs) xs
  over_more vs xs i v l m e =
      let s : length (take i vs) ≡ i = length-take-le i vs (omega arith) in
      let r : length (take i vs) < length xs = omega arith in
      ap (λ (k : ℕ). set (over (take i vs) xs) k v) (sym s)
      ∙ over_next (take i vs) v xs r
      ∙ ap (λ (w : List A). over w xs) (ap (λ (y : A). take i vs ++ (y ∷ [])) (sym e) ∙ sym (take-suc vs i v l) ∙ ap (λ (k : ℕ). take k vs) (sym (add-one i)))

  -- nothing more has room
  pub over_full : (vs xs : List A) (i : ℕ) → length xs ≤ i → over (take i vs) xs ≡ over (take (i + 1) vs) xs
  over_full vs xs i h = over_cut vs xs i h ∙ sym (over_cut vs xs (i + 1) (omega arith))
