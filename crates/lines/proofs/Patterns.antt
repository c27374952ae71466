-- The float that bits of a text stand for. Assumes nothing.
use Prim.Native.Nat.{ℕ, ◌%◌, ◌≤◌, ◌<◌}
use mathlib.Core.Path.{◌≡◌, refl, sym}
use mathlib.Core.Bool.{true, false≢true}
use lib.Ieee.{Float, nan, inf, fin, binary32, of_bits, to_bits, is_nan, nan_bits}
use lib.Ieee.Bits.{nan_bits_above}
use borrow.Author.Tests.{lt-ltb, ne_eqb}
use Rattle.root.proofs.Bits.{no_nan_bits}
use Rattle.lines.specs.Floats.{float_by}
use Rattle.std.proofs.Common.{Some, None}

-- the one pattern of a NaN
pub by_nan : (b : ℕ) → b ≡ 0x7FC00000 → Some (of_bits binary32 0x7FC00000) ≡ float_by b
unfolding float_by nan_bits
by_nan b e = rw e

pub by_other_nan : (b : ℕ) → (b ≡ 0x7FC00000 → ⊥) → 0x7F800000 < b % 0x80000000 → None ≡ float_by b
unfolding float_by
by_other_nan b n h = rw (nan_bits_above binary32 b, lt-ltb 0x7F800000 (b % 0x80000000) h, ne_eqb b 0x7FC00000 n)

pub by_number : (b : ℕ) → b % 0x80000000 ≤ 0x7F800000 → Some (of_bits binary32 b) ≡ float_by b
unfolding float_by
by_number b h = rw (no_nan_bits b h)

pub nan_word : (x : Float) → true ≡ is_nan x → 0x7FC00000 ≡ to_bits binary32 x
unfolding is_nan to_bits
nan_word nan e = refl
nan_word (inf s) e = absurd (false≢true (sym e))
nan_word (fin s m k) e = absurd (false≢true (sym e))
