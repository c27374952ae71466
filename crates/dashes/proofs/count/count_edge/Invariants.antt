-- The loop of `dashes::count::count_edge`: what each turn keeps. Assumes nothing.
use Rattle.dashes.proofs.Looping.{Counting}
use Rattle.dashes.proofs.count.count_edge.Given as goal

abbrev pub invariant-loop-count : goal.invariant-loop-count
invariant-loop-count l = Counting l.ds l.initial.spot 65537 l.spot l.count
