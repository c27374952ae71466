-- A count that stops at one more than is accepted: a sum of such counts is the sum's, and whether it is over the limit is decided. Assumes nothing.
use Prim.Native.Nat.{ℕ, min, ◌+◌, ◌≤◌, ◌<◌}
use mathlib.Core.Path.{◌≡◌, sym, ap, ◌∙◌}
use native.Mathlib.Decide.{dec_le}
use native.Mathlib.Nat.{lt_of_not-le}
use native.Mathlib.Omega.{arith}
use borrow.Author.Tests.{le-leb, lt-leb, lt-ltb}
use lib.Dec.{ltb}
use Rattle.dashes.specs.Marks.{cut_limit, cuts_enough}
use Rattle.cuts.specs.Cuts.{capped_of}

pub capped_few : (n : ℕ) → n ≤ cut_limit → capped_of n ≡ n
unfolding capped_of
capped_few n h = rw (le-leb n cut_limit h)

pub capped_many : (n : ℕ) → cut_limit < n → capped_of n ≡ cuts_enough
unfolding capped_of
capped_many n h = rw (lt-leb n cut_limit h)

pub capped_min : (n : ℕ) → min n cuts_enough ≡ capped_of n
capped_min n = go (dec_le n cut_limit)
  where
    go : Dec (n ≤ cut_limit) → min n cuts_enough ≡ capped_of n
    go (yes h) = omega (arith, capped_few n h)
    go (no f) = omega (arith, lt_of_not-le f, capped_many n (lt_of_not-le f))

pub capped_most : (n : ℕ) → capped_of n ≤ cuts_enough
capped_most n = go (dec_le n cut_limit)
  where
    go : Dec (n ≤ cut_limit) → capped_of n ≤ cuts_enough
    go (yes h) = omega (arith, capped_few n h)
    go (no f) = omega (arith, capped_many n (lt_of_not-le f))

-- what is counted so stays as it is
pub capped_same : (n : ℕ) → n ≤ cuts_enough → capped_of n ≡ n
capped_same n m = go (dec_le n cut_limit)
  where
    go : Dec (n ≤ cut_limit) → capped_of n ≡ n
    go (yes h) = capped_few n h
    go (no f) = let l : cut_limit < n = lt_of_not-le f in omega (arith, capped_many n l)

-- where it is within the limit, it is the number itself
pub capped_exact : (n : ℕ) → capped_of n ≤ cut_limit → capped_of n ≡ n
capped_exact n m = go (dec_le n cut_limit)
  where
    go : Dec (n ≤ cut_limit) → capped_of n ≡ n
    go (yes h) = capped_few n h
    go (no f) = let e = capped_many n (lt_of_not-le f) in absurd (omega arith)

-- and with k behind it, stands for the whole
pub capped_add : (n k : ℕ) → capped_of (capped_of n + k) ≡ capped_of (n + k)
capped_add n k = go (dec_le n cut_limit)
  where
    go : Dec (n ≤ cut_limit) → capped_of (capped_of n + k) ≡ capped_of (n + k)
    go (yes h) = ap (λ (m : ℕ). capped_of (m + k)) (capped_few n h)
    go (no f) =
        let l : cut_limit < n = lt_of_not-le f in
        let e = capped_many n l in
        capped_many (capped_of n + k) (omega arith) ∙ sym (capped_many (n + k) (omega arith))

-- "over 65,536" of what is counted is so of all
pub capped_over : (n : ℕ) → ltb cut_limit (capped_of n) ≡ ltb cut_limit n
capped_over n = go (dec_le n cut_limit)
  where
    go : Dec (n ≤ cut_limit) → ltb cut_limit (capped_of n) ≡ ltb cut_limit n
    go (yes h) = ap (ltb cut_limit) (capped_few n h)
    go (no f) =
        let l : cut_limit < n = lt_of_not-le f in
        lt-ltb cut_limit (capped_of n) (omega (arith, capped_many n l)) ∙ sym (lt-ltb cut_limit n l)
