-- `path::verbs::scan_verbs` meets its contract. Assumes nothing.
use Rattle.path.proofs.Placing.{Passed}
use Rattle.path.proofs.verbs.scan_verbs.Given as goal

abbrev pub invariant-loop-place : goal.invariant-loop-place
invariant-loop-place l = Passed l.verbs l.place l.inside l.points
