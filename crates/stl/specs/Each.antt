-- Things by their number: the row of them, and the first that is not fine. Assumes nothing.
use Rattle.std.specs.Prelude.{ℕ, zero, suc, ◌+◌, Bool, cond, List, [], ◌∷◌}

-- those of the numbers i, i + 1, .., n in all
unfoldable pub each : {A : Type 0} → (ℕ → A) → ℕ → ℕ → List A
each f i zero = []
each f i (suc n) = f i ∷ each f (i + 1) n

-- the first number from i on that is not fine, or i + n where all n are
unfoldable pub first_bad : (ℕ → Bool) → ℕ → ℕ → ℕ
first_bad fine i zero = i
first_bad fine i (suc n) = cond (fine i) (first_bad fine (i + 1) n) i
