-- `runs::part::count_verb` meets its contract. Assumes nothing.
use Rattle.pieces.proofs.Pieces.{puts_none}
use Rattle.cuts.specs.Runs.{cut_runs}
use Rattle.runs.specs.Cursor.{ended_of}
use Rattle.runs.specs.Runs.{mesh_vertices, mesh_triangles}
use Rattle.runs.proofs.part.count_verb.Goals as goal

pub returns-then-names_point : goal.returns-then-names_point
unfolding ended_of cut_runs mesh_vertices mesh_triangles
returns-then-names_point c = rw (← c.names_point.ensures, c.if-names_point.true) puts_none
