-- `vertices::list::put_triangle` meets its contract. Assumes nothing.
use Rattle.lists.proofs.Laws.{over_three}
use Rattle.vertices.specs.Vertex.{triangle_of}
use Rattle.vertices.proofs.list.put_triangle.Goals as goal

pub returns : goal.returns
unfolding triangle_of
returns c = over_three _ _ _ _ c.requires
