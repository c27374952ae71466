-- A number is one to ten decimal digits. Assumes nothing.
use Rattle.std.specs.Prelude.{ℕ, Bool, true, false, List, Option, Some, None, ok_or, Result, Ok, Err, ltb, length}
use Rattle.lines.specs.Digits.{within, are_digits, spelt}
use Rattle.lines.specs.Words.{Place, lost, word_at}
use Rattle.lines.specs.declared.words.BadLine.{BadLine}

abbrev pub pick_number : Bool → Option ℕ → Option ℕ → Option ℕ
pick_number true a b = a
pick_number false a b = b

-- the number that a word spells in a base
abbrev pub spelt_in : ℕ → List ℕ → Option ℕ
spelt_in base w = pick_number (are_digits base w) (Some (spelt base 0 w)) None

-- one to ten decimal digits
unfoldable pub number_of : List ℕ → Option ℕ
number_of w = pick_number (within 1 (length w) 10) (spelt_in 10 w) None

-- the number at a place of a line
unfoldable pub number_at : List ℕ → Place → Result ℕ BadLine
number_at line p = ok_or (number_of (word_at line p)) lost

-- a number that was read where a larger one than most is out of form
unfoldable pub number_up_to : ℕ → Result ℕ BadLine → Result ℕ BadLine
number_up_to most (Ok n) = ok_or (pick_number (ltb most n) None (Some n)) lost
number_up_to most (Err e) = Err e
