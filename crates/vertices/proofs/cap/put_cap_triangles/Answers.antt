-- `vertices::cap::put_cap_triangles` meets its contract. Assumes nothing.
use mathlib.Core.Path.{refl}
use native.Mathlib.Nat.{le_trans}
use lib.Dec.{lit≤}
use Rattle.lists.specs.Over.{flat}
use Rattle.lists.proofs.Parts.{behind}
use Rattle.vertices.specs.Cap.{cap_triangles_of}
use Rattle.vertices.proofs.cap.put_cap_triangles.Goals as goal

pub returns : goal.returns
unfolding cap_triangles_of flat
returns c =
    let one = rw (c.vertex_after.ensures, c.vertex_after-c.ensures) at c.put_triangle.ensures in
    let two = rw (c.vertex_after-2.ensures, c.vertex_after-c.ensures) at c.put_triangle-2.ensures in
    behind _ _ _ _ _ 3 refl (le_trans (lit≤ tt) c.requires.0) one two
