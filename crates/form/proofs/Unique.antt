-- A text has at most one place of refusal 9. Assumes nothing.
use Prim.Native.Nat.{ℕ, suc, ◌≤◌, ◌<◌}
use mathlib.Core.Path.{◌≡◌, sym, ap, ◌∙◌, subst}
use mathlib.Core.List.{List, ◌++◌, append_assoc}
use native.Mathlib.Omega.{arith}
use native.Mathlib.Decide.{dec_le}
use lib.ListN.{length, take, drop, take-append-drop}
use lib.Seq.{take-take}
use Rattle.form.specs.Form.{HasForm, Begins, Wrong}

-- what begins, begins at every shorter length
shorter : (s : List ℕ) (j k : ℕ) → j ≤ k → Begins (take k s) → Begins (take j s)
shorter s j k h b =
    let l : take k s ≡ take j s ++ drop j (take k s) = sym (take-append-drop j (take k s)) ∙ ap (λ (x : List ℕ). x ++ drop j (take k s)) (take-take j k s h) in
    (drop j (take k s) ++ b.0, subst (λ x. HasForm x) (ap (λ (x : List ℕ). x ++ b.0) l ∙ append_assoc (take j s) (drop j (take k s)) b.0) b.1)

first : (s : List ℕ) (p q : ℕ) → Wrong s p → Wrong s q → p < q → ⊥
first s p q a b h =
    let i : p < length s = omega (arith, b.within) in
    a.ends i (shorter s (suc p) q h b.begins)

pub wrong_unique : (s : List ℕ) (p q : ℕ) → Wrong s p → Wrong s q → p ≡ q
wrong_unique s p q a b = go (dec_le p q) (dec_le q p)
  where
    go : Dec (p ≤ q) → Dec (q ≤ p) → p ≡ q
    go (yes x) (yes y) = omega arith
    go (yes x) (no y) = absurd (first s p q a b (omega arith))
    go (no x) (yes y) = absurd (first s q p b a (omega arith))
    go (no x) (no y) = omega arith
