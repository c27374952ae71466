-- `path::coordinates::search` meets its contract. Assumes nothing.
use Rattle.path.proofs.Bounding.{Within}
use Rattle.path.proofs.coordinates.search.Given as goal

abbrev pub invariant-loop-i : goal.invariant-loop-i
invariant-loop-i l = Within l.coords l.i
