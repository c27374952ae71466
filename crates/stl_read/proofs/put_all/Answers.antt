-- `stl_read::put_all` meets its contract. Assumes nothing.
use mathlib.Core.Path.{refl}
use native.Mathlib.Omega.{arith}
use lib.ListN.{length-take, length-drop}
use Rattle.stl.proofs.Each.{row_room, row_turn, row_done}
use Rattle.stl_read.proofs.put_all.Goals as goal

pub facet_at-requires : goal.facet_at-requires
facet_at-requires c = (omega (arith, c.requires.bytes, c.loop-k-test.true), c.requires.fine _ c.loop-k-test.true)

pub put_corners-requires : goal.put_corners-requires
put_corners-requires c =
    let r = row_room _ _ 6 _ _ c.requires.room _ _ c.loop-k.invariant c.loop-k-test.true in
    simp (length-take, length-drop) (omega arith)

pub loop-k-preserved : goal.loop-k-preserved
loop-k-preserved c =
    row_turn _ _ 6 _ _ c.requires.room _ _ c.loop-k.invariant
    c.loop-k-test.true refl _ c.put_corners.auto.corners
    (rw c.facet_at.ensures at c.put_corners.ensures)

pub returns : goal.returns
returns c = row_done _ _ 6 _ _ c.requires.room _ _ c.loop-k.invariant c.loop-k-test.false
