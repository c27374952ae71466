-- Both calls' answer, and what each case of a call's result stands for: the number, the place and the count. Assumes nothing.
use Rattle.std.specs.Prelude.{ℕ, Result, Ok, Err}
use Rattle.refusals.specs.Numbers.{number_of, accepted, file_room, file_length, bad_corner, list_room}
use Rattle.stl.specs.declared.answer.ReadError.{ReadError}
use Rattle.stl.specs.declared.answer.ReadError.TheVariants as read
use Rattle.stl.specs.declared.answer.StlAnswer.{StlAnswer}
use Rattle.stl.specs.declared.answer.WriteError.{WriteError}
use Rattle.stl.specs.declared.answer.WriteError.TheVariants as write

-- "0 .. carries" the count: bytes that were written, or floats that were read
abbrev pub with_count : ℕ → StlAnswer
with_count n = record { number = number_of accepted; place = 0; count = n }

-- a refusal; "the others carry zero"
abbrev pub with_place : ℕ → ℕ → StlAnswer
with_place number place = record { number = number; place = place; count = 0 }

abbrev pub written_answer_of : Result ℕ WriteError → StlAnswer
written_answer_of (Ok n) = with_count n
written_answer_of (Err write.FileRoom) = with_place (number_of file_room) 0
written_answer_of (Err (write.Corner k)) = with_place (number_of bad_corner) k

abbrev pub corners_answer_of : Result ℕ ReadError → StlAnswer
corners_answer_of (Ok n) = with_count n
corners_answer_of (Err read.FileLength) = with_place (number_of file_length) 0
corners_answer_of (Err (read.Corner k)) = with_place (number_of bad_corner) k
corners_answer_of (Err read.ListRoom) = with_place (number_of list_room) 0
