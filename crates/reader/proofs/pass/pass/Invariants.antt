-- `reader::pass::pass` meets its contract. Assumes nothing.
use Rattle.reader.proofs.Passing.{Passes}
use Rattle.reader.proofs.pass.pass.Given as goal

abbrev pub invariant-loop-b : goal.invariant-loop-b
invariant-loop-b l = Passes l.text l.initial.verbs l.initial.coords l.initial.q l.verbs l.coords l.q l.b-index
