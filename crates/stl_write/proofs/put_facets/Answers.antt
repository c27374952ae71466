-- `stl_write::put_facets` meets its contract. Assumes nothing.
use native.Mathlib.Omega.{arith}
use lib.ListN.{length-take, length-drop}
use Rattle.stl.proofs.Back.{length_facet}
use Rattle.stl.proofs.Each.{row_room, row_turn, row_done}
use Rattle.stl_write.proofs.Fine.{facet_finite}
use Rattle.stl_write.proofs.put_facets.Goals as goal

pub put_facet-requires : goal.put_facet-requires
put_facet-requires c =
    let r = row_room _ _ 50 _ _ c.requires.triangles_in_bounds _ _ c.loop-k.invariant c.loop-k-test.true in
    (simp (length-take, length-drop) (omega arith), rw c.facet_of.ensures (facet_finite _ _ _ (c.requires.all_fine _ c.loop-k-test.true)))

pub loop-k-preserved : goal.loop-k-preserved
loop-k-preserved c =
    row_turn _ _ 50 _ _ c.requires.triangles_in_bounds _ _ c.loop-k.invariant
    c.loop-k-test.true (length_facet _) _ c.put_facet.auto.bytes
    (rw c.facet_of.ensures at c.put_facet.ensures)

pub returns : goal.returns
returns c = row_done _ _ 50 _ _ c.requires.triangles_in_bounds _ _ c.loop-k.invariant c.loop-k-test.false
