-- `dashes::pattern::are_lengths` meets its contract. The invariant: the whole list is in range exactly where the lengths from `d-index` on are. Assumes nothing.
use Rattle.dashes.proofs.Looping.{Tested}
use Rattle.dashes.proofs.pattern.are_lengths.Given as goal

abbrev pub invariant-loop-d : goal.invariant-loop-d
invariant-loop-d l = Tested l.ds l.d-index
