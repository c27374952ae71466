-- What a closing call answers, in the terms of document 01's table. Assumes nothing.
use Rattle.std.specs.Prelude.{Result, Ok, Err}
use Rattle.refusals.specs.Numbers.{number_of, after_close}
use Rattle.reader.specs.declared.answer.ReadAnswer.{ReadAnswer}
use Rattle.reader.specs.Answer.{with_place, read_answer_of}
use Rattle.reader.specs.declared.answer.PathSize.{PathSize}
use Rattle.radio.specs.declared.answer.RadioError.{RadioError}
use Rattle.radio.specs.declared.answer.RadioError.TheVariants.{Text, AfterClose}

-- "25, a call after the closing one with no new start, changes nothing."
abbrev pub closed_answer : ReadAnswer
closed_answer = with_place (number_of after_close) 0

abbrev pub report_of : Result PathSize RadioError → ReadAnswer
report_of (Ok size) = read_answer_of (Ok size)
report_of (Err (Text e)) = read_answer_of (Err e)
report_of (Err AfterClose) = closed_answer
