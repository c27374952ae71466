-- A list put over the start of another, as std's copies leave it. Assumes nothing.
use Prim.Native.Nat.{ℕ, zero, suc, ◌≤◌}
use mathlib.Core.Path.{◌≡◌, ap}
use mathlib.Core.List.{List, [], ◌∷◌, ◌++◌}
use native.Mathlib.Omega.{arith}
use lib.ListN.{length, drop}
use Rattle.lists.specs.Over.{over}

pub over_start : {A : Type 0} (vs xs : List A) (n : ℕ) → length vs ≡ n → n ≤ length xs → vs ++ drop n xs ≡ over vs xs
unfolding over
over_start [] xs n e h = rw (← e)
over_start (v ∷ vs) xs zero e h = absurd (omega arith)
over_start (v ∷ vs) [] (suc n) e h = absurd (omega arith)
over_start {A} (v ∷ vs) (x ∷ xs) (suc n) e h = ap (λ (l : List A). v ∷ l) (over_start vs xs n (omega arith) (omega arith))
