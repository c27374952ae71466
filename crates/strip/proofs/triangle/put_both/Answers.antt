-- `strip::triangle::put_both` meets its contract. Assumes nothing.
use mathlib.Core.Path.{refl}
use native.Mathlib.Nat.{le_trans}
use lib.Dec.{lit≤}
use Rattle.lists.specs.Over.{flat}
use Rattle.lists.proofs.Parts.{behind}
use Rattle.vertices.specs.Vertex.{triangle_of}
use Rattle.strip.specs.Triangle.{both_of}
use Rattle.strip.proofs.triangle.put_both.Goals as goal

pub returns : goal.returns
unfolding both_of triangle_of flat
returns c =
    behind _ _ _ _ _ 3 refl (le_trans (lit≤ tt) c.requires) c.put_triangle.ensures c.put_triangle-2.ensures
