-- `stl_read::put_all` meets its contract. Assumes nothing.
use Rattle.stl.specs.File.{facet_at, corners_of}
use Rattle.stl.proofs.Each.{Row}
use Rattle.stl_read.proofs.put_all.Given as goal

abbrev pub invariant-loop-k : goal.invariant-loop-k
invariant-loop-k l = Row (facet_at l.bytes) corners_of 6 l.n l.initial.corners l.corners l.k
