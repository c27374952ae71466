-- Two questions of the numbers below a bound: the first of which a test is true, and whether there is one. Assumes nothing.
use Rattle.std.specs.Prelude.{ℕ, zero, suc, Bool, true, false, cond}

-- the first number below n of which the test is true; n where there is none
unfoldable pub first : (ℕ → Bool) → ℕ → ℕ
first test zero = 0
first test (suc n) = cond (test 0) 0 (suc (first (λ k. test (suc k)) n))

-- whether the test is true of some number below n
unfoldable pub some : (ℕ → Bool) → ℕ → Bool
some test zero = false
some test (suc n) = cond (test n) true (some test n)
