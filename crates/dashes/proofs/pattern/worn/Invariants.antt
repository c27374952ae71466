-- The loop of `dashes::pattern::worn`: what each turn keeps. Assumes nothing.
use Rattle.dashes.proofs.Looping.{Wearing}
use Rattle.dashes.proofs.pattern.worn.Given as goal

abbrev pub invariant-loop-index : goal.invariant-loop-index
invariant-loop-index l = Wearing l.ds l.offset 131072 l.index l.rest
