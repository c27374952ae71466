-- The root as a function that computes, for closed examples and for the definitions of the layers above. proofs/Computed.antt joins it to
-- the meaning: `IsRoot x (root_of x)`, and what `root` answers is `root_answer x`. Assumes nothing.
use Rattle.std.specs.Prelude.{ℕ, zero, suc, ◌+◌, ◌-◌, ◌*◌, ◌/◌, ◌%◌, ◌^◌, cond, leb, ltb, eqb, Float, Some, None}
use Rattle.std.specs.Int.Count.{count_leading_zeros}
use Rattle.std.specs.Float.{binary32}
use Rattle.std.specs.Float.Ieee.{of_bits, to_bits}
use Rattle.root.specs.Root.{rootable}
use Rattle.root.specs.Answer.{answer_of}
use Rattle.root.specs.Answer.{zero as plus_zero}
use Rattle.root.specs.declared.Answer.{Answer}

-- the whole part of the root of an n below 4 ^ k, digit by digit
abbrev pub digit : ℕ → ℕ → ℕ
digit r n = cond (leb ((r + 1) * (r + 1)) n) (r + 1) r

unfoldable pub floor_root : ℕ → ℕ → ℕ
floor_root zero n = 0
floor_root (suc k) n = digit (2 * floor_root k (n / 4)) n

-- from the whole part s of the root of n to the nearest whole number
abbrev pub round_root : ℕ → ℕ → ℕ
round_root s n = cond (ltb s (n - s * s)) (s + 1) s

-- the exponent of m * 2 ^ k units, times 2 ^ 149, once m's first digit stands at place 31
abbrev pub exponent : ℕ → ℕ → ℕ
exponent m k = k + 134 - count_leading_zeros 32 m

-- m with 47 or 48 digits, so that an even exponent is left
abbrev pub operand : ℕ → ℕ → ℕ
operand m k = m * 2 ^ count_leading_zeros 32 m * 32768 * 2 ^ (exponent m k % 2)

-- the pattern of the root of m * 2 ^ k units
unfoldable pub parts_root : ℕ → ℕ → ℕ
parts_root m k = exponent m k / 2 * 8388608 + round_root (floor_root 24 (operand m k)) (operand m k)

-- the pattern of the root of the float with the pattern b, above 0. A subnormal has the exponent of the least normal numbers.
unfoldable pub bits_root : ℕ → ℕ
bits_root b = parts_root (b - (b / 8388608 - 1) * 8388608) (b / 8388608 - 1)

-- √x rounded to the nearest f32; +0 where x has no root
unfoldable pub root_of : Float → Float
root_of x = cond (rootable x) (cond (eqb (to_bits binary32 x) 0) x (of_bits binary32 (bits_root (to_bits binary32 x)))) plus_zero

-- what `root` answers
abbrev pub root_answer : Float → Answer
root_answer x = answer_of (cond (rootable x) (Some (root_of x)) None)
