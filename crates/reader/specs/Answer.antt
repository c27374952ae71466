-- The reader's answer. Assumes nothing.
use Rattle.std.specs.Prelude.{ℕ, Bool, cond, ◌||◌, ltb, eqb, Option, Some, None, Result, Ok, Err}
use Rattle.refusals.specs.Numbers.{number_of, accepted, long_text, malformed_text, large_number, reader_room}
use Rattle.path.specs.Limits.{verb_limit}
use Rattle.reader.specs.declared.answer.PathSize.{PathSize}
use Rattle.reader.specs.declared.answer.ReadError.{ReadError}
use Rattle.reader.specs.declared.answer.ReadError.TheVariants.{TooLong, OutOfForm, TooLarge, NoRoom}
use Rattle.reader.specs.declared.answer.ReadAnswer.{ReadAnswer}
use Rattle.reader.specs.declared.counts.Counts.{Counts}
use Rattle.reader.specs.declared.pass.Passage.{Passage}
use Rattle.reader.specs.Pass.{is_over}

-- "The reader's text limit becomes 1 MiB" (W-205)
abbrev pub text_limit : ℕ
text_limit = 1048576

-- "0 .. carries both counts (verbs and coordinates in the reader); the others carry zero."
abbrev pub with_counts : ℕ → ℕ → ReadAnswer
with_counts verbs coords = record { number = number_of accepted; place = 0; verbs = verbs; coords = coords }

abbrev pub with_place : ℕ → ℕ → ReadAnswer
with_place number place = record { number = number; place = place; verbs = 0; coords = 0 }

-- what each case of `read`'s answer stands for: the number, the place and both counts
abbrev pub read_answer_of : Result PathSize ReadError → ReadAnswer
read_answer_of (Ok size) = with_counts size.verbs size.coords
read_answer_of (Err TooLong) = with_place (number_of long_text) 0
read_answer_of (Err (OutOfForm i)) = with_place (number_of malformed_text) i
read_answer_of (Err (TooLarge i)) = with_place (number_of large_number) i
read_answer_of (Err NoRoom) = with_place (number_of reader_room) 0

-- "0: accepted"
abbrev pub is_path : ReadAnswer → Bool
is_path a = eqb a.number (number_of accepted)

-- "reader's lent verb or coordinate list too short, or over 4,096 verbs", since W-205 65,536
abbrev pub is_crowded : ℕ → ℕ → ℕ → ℕ → Bool
is_crowded verbs coords verb_room coord_room = ltb verb_room verbs || ltb coord_room coords || ltb verb_limit verbs

abbrev pub room_of : Counts → ℕ → ℕ → ReadAnswer
room_of c verb_room coord_room = cond (is_crowded c.verbs c.coords verb_room coord_room) (with_place (number_of reader_room) 0) (with_counts c.verbs c.coords)

-- refusals 10 and 11, in their order
abbrev pub large_or : Option ℕ → ReadAnswer → ReadAnswer
large_or (Some i) a = with_place (number_of large_number) i
large_or None a = a

abbrev pub counted_of : Counts → ℕ → ℕ → ReadAnswer
counted_of c verb_room coord_room = large_or c.large (room_of c verb_room coord_room)

-- refusals 9 to 11, behind the end of a text
abbrev pub judged_of : Passage → ℕ → ℕ → ReadAnswer
judged_of p verb_room coord_room = cond (is_over p) (with_place (number_of malformed_text) p.place) (counted_of p.counts verb_room coord_room)
