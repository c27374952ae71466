-- `stl_write::put_facets` meets its contract. Assumes nothing.
use Prim.Native.Nat.{◌/◌}
use lib.ListN.{length}
use Rattle.stl.specs.File.{facet_bytes}
use Rattle.stl.specs.Write.{facet_of}
use Rattle.stl.proofs.Each.{Row}
use Rattle.stl_write.proofs.put_facets.Given as goal

abbrev pub invariant-loop-k : goal.invariant-loop-k
invariant-loop-k l = Row (facet_of l.vertices l.triangles) facet_bytes 50 (length l.triangles / 3) l.initial.bytes l.bytes l.k
