-- The loop of `cuts::count_cuts`: what each turn keeps. Assumes nothing.
use Rattle.cuts.proofs.Passing.{Going}
use Rattle.cuts.proofs.count_cuts.Given as goal

abbrev pub invariant-loop-verb : goal.invariant-loop-verb
invariant-loop-verb l = Going l.limit l.ds l.b l.coords l.verbs l.verb-index l.g
