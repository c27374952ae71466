-- The window's answers in the terms of document 01's table: "window: `get` at or past the count; `replace_last` when empty" is 12, place 0.
-- Assumes nothing.
use Rattle.std.specs.Prelude.{ℕ, zero, suc, List, [], ◌∷◌, Option, Some, None, Result, Ok, Err}
use Rattle.refusals.specs.Numbers.{number_of, accepted, window_refused}
use Rattle.endpoint.specs.Endpoint.{blank_of}
use Rattle.endpoint.specs.declared.EndpointData.{EndpointData}
use Rattle.window.specs.declared.answer.ChangeAnswer.{ChangeAnswer}
use Rattle.window.specs.declared.answer.Empty.{Empty}
use Rattle.window.specs.declared.answer.GetAnswer.{GetAnswer}

-- "12 from `get` an endpoint of zeros, Miter, both sides Single, no fold"
abbrev pub get_answer_of : Option EndpointData → GetAnswer
get_answer_of (Some e) = record { number = number_of accepted; place = 0; endpoint = e }
get_answer_of None = record { number = number_of window_refused; place = 0; endpoint = blank_of }

-- `replace_last` answers a number and a place alone
abbrev pub change_answer_of : Result Unit Empty → ChangeAnswer
change_answer_of (Ok u) = record { number = number_of accepted; place = 0 }
change_answer_of (Err e) = record { number = number_of window_refused; place = 0 }

-- what reading at i answers, where these are held, oldest first
unfoldable pub got_of : List EndpointData → ℕ → GetAnswer
got_of [] i = get_answer_of None
got_of (x ∷ xs) zero = get_answer_of (Some x)
got_of (x ∷ xs) (suc i) = got_of xs i

-- what replacing the last answers
unfoldable pub replaced_answer_of : List EndpointData → ChangeAnswer
replaced_answer_of [] = change_answer_of (Err (record {}))
replaced_answer_of (x ∷ xs) = change_answer_of (Ok tt)
