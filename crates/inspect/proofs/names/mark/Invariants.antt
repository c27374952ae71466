-- `inspect::names::mark` meets its contract. The marks are those of the numbers so far. Assumes nothing.
use Rattle.inspect.specs.Marks.{Marked}
use Rattle.inspect.proofs.names.mark.Given as goal

abbrev pub invariant-loop-x : goal.invariant-loop-x
invariant-loop-x l = Marked l.base l.list l.x-index l.initial.marks l.marks
