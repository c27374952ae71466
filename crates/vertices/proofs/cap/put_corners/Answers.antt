-- `vertices::cap::put_corners` meets its contract. Assumes nothing.
use mathlib.Core.Path.{refl}
use native.Mathlib.Nat.{le_trans}
use lib.Dec.{lit≤}
use Rattle.lists.specs.Over.{flat}
use Rattle.lists.proofs.Parts.{behind}
use Rattle.vertices.specs.Cap.{cap_pair_of, cap_vertices_of}
use Rattle.vertices.proofs.cap.put_corners.Goals as goal

pub returns : goal.returns
unfolding cap_vertices_of cap_pair_of flat
returns c =
    let room = c.requires in
    let one = c.put_corner_pair.ensures in
    let two = c.put_corner_pair-2.ensures in
    record { v_after = behind _ _ _ _ _ 10 refl (le_trans (lit≤ tt) room.0) one.v_after two.v_after; src_after = behind _ _ _ _ _ 2 refl (le_trans (lit≤ tt) room.1) one.src_after two.src_after }
