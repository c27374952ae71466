-- `stl_write::put_file` meets its contract. Assumes nothing.
use native.Mathlib.Omega.{arith}
use Rattle.lists.proofs.Parts.{behind}
use Rattle.stl.specs.Write.{facet_of}
use Rattle.stl.proofs.Each.{length_each}
use Rattle.stl_write.proofs.Parts.{length_head, file_parts}
use Rattle.stl_write.proofs.put_file.Goals as goal

pub returns : goal.returns
returns c =
    let n = length_each (facet_of c.args.vertices.now c.args.triangles.now) 0 _ in
    let e = behind _ _ _ _ _ 84 (length_head _) (omega (arith, c.requires.room)) c.put_head.ensures c.put_facets.ensures in
    rw (file_parts _ _ n) e
