-- Words: separated by one space, with none before the first and none after the last. Assumes nothing.
use Rattle.std.specs.Prelude.{ℕ, zero, suc, ◌+◌, ◌≡◌, Bool, true, false, cond, List, [], ◌∷◌, Option, Some, None, Result, Ok, Err, eqb, ltb, length, drop}
use Rattle.std.specs.Result.{result_unwrap_or}
use Rattle.lines.specs.declared.words.BadLine.{BadLine}

-- where the next word of a line starts; None is the place behind the last
abbrev pub Place : Type 0
Place = Option ℕ

-- a word is missing or out of form
abbrev pub lost : BadLine
lost = record {}

-- the bytes of a text before its first space, or all of them
unfoldable pub up_to_space : List ℕ → List ℕ
up_to_space [] = []
up_to_space (b ∷ s) = cond (eqb b 32) [] (b ∷ up_to_space s)

-- the word at a place of a line, and nothing where none is left
unfoldable pub word_at : List ℕ → Place → List ℕ
word_at line (Some i) = up_to_space (drop i line)
word_at line None = []

abbrev pub pick_place : Bool → Place → Place → Place
pick_place true a b = a
pick_place false a b = b

-- what follows n bytes at i: where they are a word, one space and the next word, or the line's end
abbrev pub place_after : List ℕ → ℕ → ℕ → Result Place BadLine
place_after line i zero = Err lost
place_after line i (suc n) = Ok (pick_place (ltb (i + suc n) (length line)) (Some (i + suc n + 1)) None)

-- the place after the word at a place
unfoldable pub rest_at : List ℕ → Place → Result Place BadLine
rest_at line (Some i) = place_after line i (length (up_to_space (drop i line)))
rest_at line None = Err lost

-- where a reader stands that was asked for the word at a place: behind it, and where there is none, where it stood
abbrev pub behind : List ℕ → Place → Place
behind line p = result_unwrap_or (rest_at line p) p

-- w is the word at a place of a line, and rest the place after it
pub record Found (line : List ℕ) (p : Place) (w : List ℕ) (rest : Place) : Type 0 where
  pub word : w ≡ word_at line p
  pub after : rest_at line p ≡ Ok rest

-- every word was read
abbrev pub is_end : Place → Bool
is_end (Some i) = false
is_end None = true
