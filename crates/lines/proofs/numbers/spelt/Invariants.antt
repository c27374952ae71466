-- `lines::numbers::spelt` meets its contract. The loop's invariant is `Spelling`. Assumes nothing.
use Rattle.lines.proofs.Spelling.{Spelling}
use Rattle.lines.proofs.numbers.spelt.Given as goal

abbrev pub invariant-loop-b : goal.invariant-loop-b
invariant-loop-b l = Spelling l.base l.word l.value l.b-index
