-- The bits of a float, of a NaN too. Assumes nothing.
use Prim.Native.Nat.{ℕ, ◌%◌, ◌≤◌}
use mathlib.Core.Path.{◌≡◌, refl, sym, ◌∙◌, subst}
use mathlib.Core.Bool.{true, false}
use lib.Dec.{T}
use lib.Ieee.{Float, nan, inf, fin, binary32, to_bits, nan_bits, is_nan, ne}
use lib.Ieee.Bits.{nan_bits_above}
use lib.Ieee.Compare.{differs_from_itself, nan_differs}
use borrow.Author.Tests.{le-ltb}

pub nan_word : (x : Float) → ne x x ≡ true → 0x7FC00000 ≡ to_bits binary32 x
unfolding to_bits
nan_word x e = rw (differs_from_itself x (subst T (sym e) tt))

pub no_nan : (x : Float) → ne x x ≡ false → is_nan x ≡ false
unfolding is_nan
no_nan nan e = sym nan_differs ∙ e
no_nan (inf s) e = refl
no_nan (fin s m e) e' = refl

pub no_nan_bits : (b : ℕ) → b % 0x80000000 ≤ 0x7F800000 → nan_bits binary32 b ≡ false
no_nan_bits b h = nan_bits_above binary32 b ∙ le-ltb 0x7F800000 (b % 0x80000000) h
