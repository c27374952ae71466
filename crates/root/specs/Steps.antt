-- What the private functions of the root promise each other. Assumes nothing.
use Rattle.std.specs.Prelude.{◌≡◌, ℕ, ◌+◌, ◌-◌, ◌*◌, ◌/◌, ◌%◌, ◌^◌, ◌≤◌, ◌<◌, false}
use Rattle.std.specs.Float.{binary32}
use Rattle.std.specs.Float.Ieee.{of_bits}
use Rattle.std.specs.Float.Ieee.Exact.{HasValue}
use Rattle.root.specs.Root.{IsRoot, Close}

-- ---- whole.rt

-- s is the whole part of the root of n
pub record Floor (n s : ℕ) : Type 0 where
  pub low : s * s ≤ n
  pub high : n < (s + 1) * (s + 1)

-- s is the whole number nearest to the root of n, (s - 1/2)² < n < (s + 1/2)², and it has 24 digits
pub record Near (n s : ℕ) : Type 0 where
  pub low : s * s < n + s
  pub high : n ≤ s * s + s
  pub least : 8388608 ≤ s
  pub most : s < 16777216

-- n has 47 or 48 digits, the last 23 of them 0, and is so far below 2 ^ 48 that its root is not rounded up to 2 ^ 24
pub record Operands (n : ℕ) : Type 0 where
  pub low : 70368744177664 ≤ n
  pub high : n ≤ 281474959933440
  pub zeros : n % 8388608 ≡ 0

-- w, once the digits of n's root down to the place `place` are found: q is these digits, and r = 2 ^ place. From bit 32 up stands what is left
-- of n, n - (q * r)², in quarters of r, and below it q with 01 behind it. `small`: less is left than a q greater by one would take.
pub record Digits (n w place : ℕ) : Type 0 where
  pub q : ℕ
  pub left : ℕ
  pub word : w ≡ left * 4294967296 + (4 * q + 1)
  pub rest : 4 * n ≡ left * 2 ^ place + 4 * (q * 2 ^ place * (q * 2 ^ place))
  pub small : left < 8 * (q * 2 ^ place) + 4 * 2 ^ place
  pub room : q * 2 ^ place + 2 ^ place ≤ 16777216
  pub most : place ≤ 23

-- ---- pattern.rt

-- one less than the exponent's field of the pattern b; of a subnormal's field, which is 0, 0
abbrev pub exponent_of : ℕ → ℕ
exponent_of b = b / 8388608 - 1

-- the pattern b stands for v units; these, times 2 ^ 149, are n times the square of 2 ^ g
pub record Scaled (b n g : ℕ) : Type 0 where
  pub v : ℕ
  pub value : HasValue (of_bits binary32 b) false v (2 ^ 149)
  pub same : v * 2 ^ 149 ≡ n * (2 ^ g * 2 ^ g)
  pub operands : Operands n
  pub most : g ≤ 189

-- r is the pattern of the root of the float with the pattern b
pub record BitsRoot (b r : ℕ) : Type 0 where
  pub finite : r < 2139095040
  pub root : IsRoot (of_bits binary32 b) (of_bits binary32 r)
  pub close : Close (of_bits binary32 b) (of_bits binary32 r)
