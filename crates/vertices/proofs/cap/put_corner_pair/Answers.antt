-- `vertices::cap::put_corner_pair` meets its contract. Assumes nothing.
use mathlib.Core.Path.{refl}
use native.Mathlib.Nat.{le_trans}
use lib.Dec.{lit≤}
use Rattle.lists.specs.Over.{flat}
use Rattle.lists.proofs.Parts.{behind}
use Rattle.vertices.specs.Cap.{cap_pair_of}
use Rattle.vertices.proofs.cap.put_corner_pair.Goals as goal

pub returns : goal.returns
unfolding cap_pair_of flat
returns c =
    let room = c.requires in
    let one = c.put_corner.ensures in
    let two = c.put_corner-2.ensures in
    record { v_after = behind _ _ _ _ _ 5 refl (le_trans (lit≤ tt) room.0) one.v_after two.v_after; src_after = behind _ _ _ _ _ 1 refl (le_trans (lit≤ tt) room.1) one.src_after two.src_after }
