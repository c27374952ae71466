-- Three scales in units of 2 ^ -149, and what rounding keeps at them: the number 1; a grain, 2 ^ -11, in which distances are measured; and a speck,
-- the grain's square 2 ^ -22. Assumes nothing.
use mathlib.Core.Path.{◌≡◌, refl, ◌∙◌, subst}
use Prim.Native.Nat.{ℕ, ◌+◌, ◌*◌, ◌^◌, ◌≤◌, ◌<◌}
use native.Mathlib.Nat.{one-mul}
use lib.Dec.{lit<}
use lib.Pow.{pow-add, pow_pos}
use Rattle.rounding.proofs.Rounding.{rounded, le_rounded, rounded_le, rounded_error}

unfoldable pub one : ℕ
one = 2 ^ 149

unfoldable pub grain : ℕ
grain = 2 ^ 138

unfoldable pub speck : ℕ
speck = 2 ^ 127

pub one_pos : 0 < one
unfolding one
one_pos = pow_pos 149

pub speck_pos : 0 < speck
unfolding speck
speck_pos = pow_pos 127

pub one_grains : one ≡ 2048 * grain
unfolding one grain
one_grains = refl

pub grains_square : grain * grain ≡ speck * one
unfolding one grain speck
grains_square = refl

-- ---- bounds that rounding keeps
module _ (k n c : ℕ) (K : k < 2 ^ 24) (C : 0 < c) where
  pub rounded_le_ones : n ≤ k * one * c → rounded n c ≤ k * one
  unfolding one
  rounded_le_ones h = rounded_le n c C k 149 K h

  pub rounded_le_grains : n ≤ k * grain * c → rounded n c ≤ k * grain
  unfolding grain
  rounded_le_grains h = rounded_le n c C k 138 K h

  pub le_rounded_grains : k * grain * c ≤ n → k * grain ≤ rounded n c
  unfolding grain
  le_rounded_grains h = le_rounded n c C k 138 K h

  pub rounded_le_specks : n ≤ k * speck * c → rounded n c ≤ k * speck
  unfolding speck
  rounded_le_specks h = rounded_le n c C k 127 K h

  pub le_rounded_specks : k * speck * c ≤ n → k * speck ≤ rounded n c
  unfolding speck
  le_rounded_specks h = le_rounded n c C k 127 K h

-- the square of a coordinate has more than 24 digits, and a power of two above it
pub rounded_le_power : (j n c : ℕ) → 0 < c → n ≤ 2 ^ j * one * c → rounded n c ≤ 2 ^ j * one
unfolding one
rounded_le_power j n c C h = subst (λ (x : ℕ). n ≤ x * c → rounded n c ≤ x) (power j) (rounded_le n c C 1 (j + 149) (lit< tt)) h
  where
    power : (j : ℕ) → 1 * 2 ^ (j + 149) ≡ 2 ^ j * 2 ^ 149
    power j = one-mul (2 ^ (j + 149)) ∙ pow-add 2 j 149

-- ---- its error: below 65,536 a place is at most 8 grains
pub rounded_error_grains : (n c : ℕ) → 0 < c → n < 65536 * one * c → (2 * (rounded n c * c) ≤ 2 * n + 8 * grain * c) × (2 * n ≤ 2 * (rounded n c * c) + 8 * grain * c)
unfolding one grain
rounded_error_grains n c C h = rounded_error n c C 141 h
