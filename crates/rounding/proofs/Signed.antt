-- Signed numbers as a sign and a size: the parts of one above and below zero, and sums of two. `true` is the sign of what is below. Assumes nothing.
use mathlib.Core.Path.{◌≡◌, refl, ap}
use Prim.Native.Nat.{ℕ, ◌+◌, ◌*◌, ◌≤◌}
use native.Mathlib.Omega.{arith}
use mathlib.Core.Bool.{Bool, true, false, not}
use lib.Ieee.{unlike}

-- the sign of a square, and of a product by one that is not negative
pub alike : (s : Bool) → unlike s s ≡ false
alike true = refl
alike false = refl

pub same_sign : (s : Bool) → unlike s false ≡ s
same_sign true = refl
same_sign false = refl

-- of ±a the part above zero, and the part below
abbrev pub above : Bool → ℕ → ℕ
above true a = 0
above false a = a

abbrev pub under : Bool → ℕ → ℕ
under true a = a
under false a = 0

pub above_under : (s : Bool) (a : ℕ) → above s a + under s a ≡ a
above_under true a = omega arith
above_under false a = omega arith

pub above_not : (s : Bool) (a : ℕ) → above (not s) a ≡ under s a
above_not true a = refl
above_not false a = refl

pub under_not : (s : Bool) (a : ℕ) → under (not s) a ≡ above s a
under_not true a = refl
under_not false a = refl

above_times : (s : Bool) (a k : ℕ) → above s (a * k) ≡ above s a * k
above_times true a k = omega arith
above_times false a k = refl

under_times : (s : Bool) (a k : ℕ) → under s (a * k) ≡ under s a * k
under_times true a k = refl
under_times false a k = omega arith

-- ±w is ±a + ±b
abbrev pub Sums : Bool → ℕ → Bool → ℕ → Bool → ℕ → Type 0
Sums s a t b r w = above r w + under s a + under t b ≡ under r w + above s a + above t b

pub sums_le : (s : Bool) (a : ℕ) (t : Bool) (b : ℕ) (r : Bool) (w : ℕ) → Sums s a t b r w → w ≤ a + b
sums_le s a t b true w e = omega (arith, above_under s a, above_under t b)
sums_le s a t b false w e = omega (arith, above_under s a, above_under t b)

pub sums_times : (s : Bool) (a : ℕ) (t : Bool) (b : ℕ) (r : Bool) (w k : ℕ) → Sums s a t b r w → Sums s (a * k) t (b * k) r (w * k)
sums_times s a t b r w k e =
    let f : (above r w + under s a + under t b) * k ≡ (under r w + above s a + above t b) * k = ap (λ (z : ℕ). z * k) e in
    omega (arith, above_times r w k, under_times r w k, above_times s a k, under_times s a k, above_times t b k, under_times t b k)

-- a - b and b - a have one size
pub differences_size : (s : Bool) (a : ℕ) (t : Bool) (b : ℕ) (r : Bool) (w : ℕ) (q : Bool) (v : ℕ) → Sums s a (not t) b r w → Sums t b (not s) a q v → w ≡ v
differences_size s a t b r w q v e f = go r q (rw (above_not, under_not) at e) (rw (above_not, under_not) at f)
  where
    go : (r q : Bool) → above r w + under s a + above t b ≡ under r w + above s a + under t b → above q v + under t b + above s a ≡ under q v + above t b + under s a → w ≡ v
    go true true e f = omega arith
    go true false e f = omega arith
    go false true e f = omega arith
    go false false e f = omega arith
