-- What the reader answers, and both lists whole, by the passes over the bytes: one that counts, one that writes. Assumes nothing.
use Rattle.std.specs.Prelude.{ℕ, cond, List, [], ◌∷◌, ltb, Float, length}
use Rattle.refusals.specs.Numbers.{number_of, long_text}
use Rattle.reader.specs.declared.answer.ReadAnswer.{ReadAnswer}
use Rattle.reader.specs.Answer.{text_limit, with_place, is_path, judged_of}
use Rattle.reader.specs.Outcome.{Outcome, refused}
use Rattle.reader.specs.Pass.{Passed, set_out, pass_of}

-- behind the last byte stands an M, which the end of the text is as good as
abbrev pub end_byte : ℕ
end_byte = 77

-- the lists that are lent
module _ (v : List ℕ) (c : List Float) where
  abbrev pub starting : Passed
  starting = record { passage = set_out; verbs = v; coords = c }

  -- a text whole, with its end
  unfoldable pub through_of : List ℕ → Passed
  through_of text = pass_of (pass_of starting text) (end_byte ∷ [])

  abbrev pub read_by : ReadAnswer → Passed → Outcome
  read_by a w = cond (is_path a) (record { answer = a; verbs = w.verbs; coords = w.coords }) (refused v c a)

-- "Order is by number within a call."
unfoldable pub outcome_of : List ℕ → List ℕ → List Float → Outcome
outcome_of text v c =
    cond (ltb text_limit (length text)) (refused v c (with_place (number_of long_text) 0))
    (read_by v c (judged_of (through_of [] [] text).passage (length v) (length c)) (through_of v c text))
