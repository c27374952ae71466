-- `vertices::list::put_vertex` meets its contract. Assumes nothing.
use Rattle.lists.proofs.Laws.{over_one, over_five}
use Rattle.vertices.specs.Vertex.{vertex_of}
use Rattle.vertices.proofs.list.put_vertex.Goals as goal

pub returns : goal.returns
unfolding vertex_of
returns c = record { v_after = over_five _ _ _ _ _ _ c.requires.0; src_after = over_one _ _ c.requires.1 }
