-- What each case of the answer of `widen` and `narrow` stands for: the number, the place and the count. Assumes nothing.
use Rattle.std.specs.Prelude.{ℕ, Result, Ok, Err}
use Rattle.refusals.specs.Numbers.{number_of, accepted, list_room, wide_number}
use Rattle.widths.specs.declared.answer.ListedAnswer.{ListedAnswer}
use Rattle.widths.specs.declared.answer.WidthError.{WidthError}
use Rattle.widths.specs.declared.answer.WidthError.TheVariants.{ListRoom, WideNumber}

-- how many numbers were put there
abbrev pub with_count : ℕ → ListedAnswer
with_count n = record { number = number_of accepted; place = 0; count = n }

-- a refusal carries no count
abbrev pub with_place : ℕ → ℕ → ListedAnswer
with_place number place = record { number = number; place = place; count = 0 }

abbrev pub listed_answer_of : Result ℕ WidthError → ListedAnswer
listed_answer_of (Ok n) = with_count n
listed_answer_of (Err ListRoom) = with_place (number_of list_room) 0
listed_answer_of (Err (WideNumber i)) = with_place (number_of wide_number) i
