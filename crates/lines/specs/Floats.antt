-- A float is the eight uppercase hex digits of its f32 bits; a NaN is always 7FC00000. Assumes nothing.
use Rattle.std.specs.Prelude.{ℕ, Bool, true, false, not, ◌||◌, List, Option, Some, None, ok_or, Result, eqb, length}
use Rattle.std.specs.Float.Ieee.{Float}
use Rattle.std.specs.Float.{binary32}
use Rattle.std.specs.Float.Ieee.{of_bits, to_bits, nan_bits}
use Rattle.lines.specs.Digits.{hex_of}
use Rattle.lines.specs.Numbers.{spelt_in}
use Rattle.lines.specs.Words.{Place, lost, word_at}
use Rattle.lines.specs.declared.words.BadLine.{BadLine}

abbrev pub pick_float : Bool → Option Float → Option Float → Option Float
pick_float true a b = a
pick_float false a b = b

-- the float of f32 bits: of the patterns of a NaN only 7FC00000 is taken
unfoldable pub float_by : ℕ → Option Float
float_by b = pick_float (not (nan_bits binary32 b) || eqb b 0x7FC00000) (Some (of_bits binary32 b)) None

abbrev pub float_from : Option ℕ → Option Float
float_from (Some b) = float_by b
float_from None = None

-- eight hex digits
unfoldable pub float_of : List ℕ → Option Float
float_of w = pick_float (eqb (length w) 8) (float_from (spelt_in 16 w)) None

-- the float at a place of a line
unfoldable pub float_at : List ℕ → Place → Result Float BadLine
float_at line p = ok_or (float_of (word_at line p)) lost

-- the eight hex digits of a float: to_bits gives every NaN the pattern 7FC00000
abbrev pub float_hex : Float → List ℕ
float_hex x = hex_of 8 (to_bits binary32 x)
