-- `stl_write::put::put_facet` meets its contract. Assumes nothing.
use borrow.Author.Rules.{rules}
use mathlib.Core.Path.{refl}
use native.Mathlib.Nat.{le_trans}
use lib.Dec.{lit≤}
use Rattle.lists.proofs.Parts.{behind}
use Rattle.stl_write.proofs.Fine.{corners_finite}
use Rattle.stl_write.proofs.Parts.{length_24, length_36, length_48, facet_parts}
use Rattle.stl_write.proofs.put.put_facet.Goals as goal

pub put_corner-requires : goal.put_corner-requires
put_corner-requires c = (search rules, (corners_finite _ c.requires.1).0)

pub put_corner-requires-2 : goal.put_corner-requires-2
put_corner-requires-2 c = (search rules, (corners_finite _ c.requires.1).1)

pub put_corner-requires-3 : goal.put_corner-requires-3
put_corner-requires-3 c = (search rules, (corners_finite _ c.requires.1).2)

pub returns : goal.returns
returns c =
    let h = c.requires.0 in
    let e1 = behind _ _ _ _ _ 12 refl (le_trans (lit≤ tt) h)
    c.put_zeros.ensures
    c.put_corner.ensures in
    let e2 = behind _ _ _ _ _ 24 (length_24 _) (le_trans (lit≤ tt) h) e1 c.put_corner-2.ensures in
    let e3 = behind _ _ _ _ _ 36 (length_36 _ _) (le_trans (lit≤ tt) h) e2 c.put_corner-3.ensures in
    rw (facet_parts c.args.f)
    (behind _ _ _ _ _ 48 (length_48 _ _ _) (le_trans (lit≤ tt) h) e3 c.put_zeros-2.ensures)
