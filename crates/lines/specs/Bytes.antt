-- A byte list is one word of uppercase hex digits, two to a byte, or `-` where it is empty. Assumes nothing.
use Rattle.std.specs.Prelude.{ℕ, ◌+◌, ◌*◌, ◌%◌, Bool, true, false, ◌&&◌, ◌||◌, cond, List, [], ◌∷◌, Option, Some, None, ok_or, Result, eqb, leb, length, get_or}
use Rattle.lines.specs.Digits.{digit_of, are_digits}
use Rattle.lines.specs.Words.{Place, lost, word_at}
use Rattle.lines.specs.declared.words.BadLine.{BadLine}

-- the bytes that the digits of a word spell, two to a byte; a digit alone spells none, and so does `-`
unfoldable pub pairs_of : List ℕ → List ℕ
pairs_of [] = []
pairs_of (b ∷ []) = []
pairs_of (b ∷ c ∷ w) = (digit_of b * 16 + digit_of c) ∷ pairs_of w

-- the word of the empty list
unfoldable pub is_dash : List ℕ → Bool
is_dash w = eqb (length w) 1 && eqb (get_or w 0 0) 45

-- at least two hex digits, and an even number of them
unfoldable pub are_pairs : List ℕ → Bool
are_pairs w = leb 2 (length w) && (eqb (length w % 2) 0 && are_digits 16 w)

-- a word is a byte list, and a lent list of so many places holds it
unfoldable pub is_held : ℕ → List ℕ → Bool
is_held room w = (is_dash w || are_pairs w) && leb (length (pairs_of w)) room

-- the bytes that are put over the lent list: none where the word is out of form or too long for it
unfoldable pub bytes_in : ℕ → List ℕ → List ℕ
bytes_in room w = cond (is_held room w) (pairs_of w) []

abbrev pub pick_bytes : Bool → Option ℕ → Option ℕ → Option ℕ
pick_bytes true a b = a
pick_bytes false a b = b

-- how many they are
unfoldable pub bytes_of : ℕ → List ℕ → Option ℕ
bytes_of room w = pick_bytes (is_held room w) (Some (length (pairs_of w))) None

-- the byte list at a place of a line
unfoldable pub bytes_at : ℕ → List ℕ → Place → Result ℕ BadLine
bytes_at room line p = ok_or (bytes_of room (word_at line p)) lost
