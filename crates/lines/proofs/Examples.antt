-- Worked examples of each form. Assumes nothing.
use Prim.Native.Nat.{ℕ}
use Prim.Native.Char.{code}
use Prim.Native.String.{String, [] as none, ◌∷◌ as ◌then◌}
use mathlib.Core.Path.{◌≡◌, refl}
use mathlib.Core.Bool.{true, false}
use mathlib.Core.List.{List, [], ◌∷◌}
use lib.IntN.{pos, negsuc}
use lib.Ieee.{nan, inf, fin, of_bits, to_bits, nan_bits}
use Rattle.lines.specs.Bytes.{pairs_of, is_dash, are_pairs, is_held, bytes_in, bytes_of}
use Rattle.lines.specs.Digits.{digit_of, are_digits, spelt, glyph_of, digits_of, places_up_to, decimal_of, hex_of}
use Rattle.lines.specs.Floats.{float_by, float_of, float_hex}
use Rattle.lines.specs.Numbers.{number_of}
use Rattle.lines.specs.Words.{up_to_space, word_at, rest_at, lost}
use Rattle.std.proofs.Common.{Some, None, Ok, Err}

bytes : String → List ℕ
bytes none = []
bytes (c then s) = code c ∷ bytes s

words : (word_at (bytes "root 3F800000") (Some 0) ≡ bytes "root")
    × (rest_at (bytes "root 3F800000") (Some 0) ≡ Ok (Some 5))
    × (word_at (bytes "root 3F800000") (Some 5) ≡ bytes "3F800000")
    × (rest_at (bytes "root 3F800000") (Some 5) ≡ Ok None)
    × (rest_at (bytes "root  3F800000") (Some 5) ≡ Err lost)
    × (rest_at (bytes "root ") (Some 5) ≡ Err lost)
    × (rest_at (bytes " root") (Some 0) ≡ Err lost)
    × (rest_at [] (Some 0) ≡ Err lost)
unfolding bytes up_to_space word_at rest_at
words = (refl, refl, refl, refl, refl, refl, refl, refl)

numbers : (number_of (bytes "0") ≡ Some 0)
    × (number_of (bytes "0000000012") ≡ Some 12)
    × (number_of (bytes "9999999999") ≡ Some 9999999999)
    × (number_of (bytes "00000000012") ≡ None)
    × (number_of [] ≡ None)
    × (number_of (bytes "1A") ≡ None)
    × (number_of (bytes "-1") ≡ None)
unfolding bytes digit_of are_digits spelt number_of
numbers = (refl, refl, refl, refl, refl, refl, refl)

floats : (float_of (bytes "3FC00000") ≡ Some (fin false 3 (negsuc 0)))
    × (float_of (bytes "80000000") ≡ Some (fin true 0 (pos 0)))
    × (float_of (bytes "FF800000") ≡ Some (inf true))
    × (float_of (bytes "7FC00000") ≡ Some nan)
    × (float_of (bytes "7FC00001") ≡ None)
    × (float_of (bytes "FFC00000") ≡ None)
    × (float_of (bytes "3fc00000") ≡ None)
    × (float_of (bytes "3FC0000") ≡ None)
unfolding bytes digit_of are_digits spelt float_by float_of of_bits nan_bits
floats = (refl, refl, refl, refl, refl, refl, refl, refl)

lists : (bytes_of 3 (bytes "0001FF") ≡ Some 3)
    × (bytes_in 3 (bytes "0001FF") ≡ 0 ∷ 1 ∷ 255 ∷ [])
    × (bytes_of 0 (bytes "-") ≡ Some 0)
    × (bytes_of 2 (bytes "0001FF") ≡ None)
    × (bytes_of 3 (bytes "0001F") ≡ None)
    × (bytes_of 3 (bytes "0001ff") ≡ None)
    × (bytes_of 3 (bytes "--") ≡ None)
    × (bytes_of 3 [] ≡ None)
    × (bytes_in 3 (bytes "0001F") ≡ [])
unfolding bytes digit_of are_digits pairs_of is_dash are_pairs is_held bytes_in bytes_of
lists = (refl, refl, refl, refl, refl, refl, refl, refl, refl)

printed : (decimal_of 0 ≡ bytes "0")
    × (decimal_of 10 ≡ bytes "10")
    × (decimal_of 18446744073709551615 ≡ bytes "18446744073709551615")
    × (hex_of 2 0xA5 ≡ bytes "A5")
    × (float_hex nan ≡ bytes "7FC00000")
    × (float_hex (fin true 0 (pos 0)) ≡ bytes "80000000")
unfolding bytes glyph_of digits_of places_up_to decimal_of to_bits
printed = (refl, refl, refl, refl, refl, refl)
