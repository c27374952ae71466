-- The loop of `cuts::run_cuts::count_points`: what each turn keeps. Assumes nothing.
use Rattle.cuts.proofs.Counting.{Counting}
use Rattle.cuts.proofs.run_cuts.count_points.Given as goal

abbrev pub invariant-loop-j : goal.invariant-loop-j
invariant-loop-j l = Counting l.limit l.ds l.p.coords.now l.p.first.0 l.i l.initial.t l.j l.t
