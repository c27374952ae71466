-- `bends::lay_edge` meets its contract. Assumes nothing.
use Rattle.bends.proofs.Writing.{faced_none}
use Rattle.bends.specs.Bend.{edge_faces}
use Rattle.bends.proofs.lay_edge.Goals as goal

pub lay_between-requires : goal.lay_between-requires
unfolding edge_faces
lay_between-requires c = rw c.if-s.true at c.requires

pub returns-then-s : goal.returns-then-s
unfolding edge_faces
returns-then-s c = rw c.if-s.true c.lay_between.ensures

pub returns-else-s : goal.returns-else-s
unfolding edge_faces
returns-else-s c = rw c.if-s.false (faced_none _ _)
