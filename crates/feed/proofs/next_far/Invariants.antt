-- The loop of `feed::next_far`: what each turn keeps. Assumes nothing.
use mathlib.Core.Path.{◌≡◌}
use lib.ListN.{drop}
use Rattle.kept.specs.Kept.{kept_behind}
use Rattle.kept.specs.Points.{endpoints_of}
use Rattle.feed.proofs.next_far.Given as goal

abbrev pub invariant-loop-j : goal.invariant-loop-j
invariant-loop-j l = kept_behind l.near l.a (drop l.i (endpoints_of l.p.first.0 l.p.coords.now)) ≡ kept_behind l.near l.a (drop l.j (endpoints_of l.p.first.0 l.p.coords.now))
