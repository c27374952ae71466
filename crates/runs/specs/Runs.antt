-- All runs of a path, one after another: their vertices, triangles and counts. "Demands 2 and 3 read of the cut runs" (W-213): they are runs like any other. Assumes nothing.
use Rattle.std.specs.Prelude.{ℕ, ◌+◌, List, [], ◌∷◌, ◌++◌, Float, length}
use Rattle.endpoint.specs.declared.Endpoint.{Endpoint}
use Rattle.options.specs.declared.Stroke.{Stroke}
use Rattle.path.specs.Runs.{Run, runs_from}
use Rattle.kept.specs.Points.{endpoints_of}
use Rattle.cuts.specs.Runs.{cut_runs, FewCuts}
use Rattle.triangles.specs.Tri.{Tri}
use Rattle.pieces.specs.Piece.{Vertex, Piece, next_vertex}
use Rattle.pieces.specs.declared.Place.{Place}
use Rattle.run.specs.Run.{Shape, shape_of, shape_count, shape_vertices, shape_triangles}

-- "A path is a list of verb bytes .. and a list of coordinates, two to each begin or line."
abbrev pub runs_of : List ℕ → List Float → List (Run Endpoint)
runs_of verbs coords = runs_from 0 verbs (endpoints_of 0 coords)

-- W-213: the runs that are drawn, cut by the lengths ds; themselves where there are none
abbrev pub cut_of : Stroke → List Float → List (Run Endpoint) → List (Run Endpoint)
cut_of o ds rs = cut_runs o.near ds o.offset rs

abbrev pub CutsFew : Stroke → List Float → List (Run Endpoint) → Type 0
CutsFew o ds rs = FewCuts o.near ds o.offset rs

-- of a path
abbrev pub path_runs : Stroke → List Float → List ℕ → List Float → List (Run Endpoint)
path_runs o ds verbs coords = cut_of o ds (runs_of verbs coords)

-- rules 1 and 2: what a run draws
abbrev pub drawn_of : Stroke → Run Endpoint → Shape
drawn_of o r = shape_of o r.closed r.points

-- rule 8: the vertices
unfoldable pub mesh_vertices : Stroke → List (Run Endpoint) → List Vertex
mesh_vertices o [] = []
mesh_vertices o (r ∷ rs) = shape_vertices o (drawn_of o r) ++ mesh_vertices o rs

unfoldable pub mesh_count : Stroke → List (Run Endpoint) → ℕ
mesh_count o [] = 0
mesh_count o (r ∷ rs) = shape_count (drawn_of o r) + mesh_count o rs

-- rule 9: "Vertex numbers go on over all runs, and each run is written to the part of the lists that begins where the last run ended."
unfoldable pub mesh_triangles : Stroke → ℕ → List (Run Endpoint) → List Tri
mesh_triangles o base [] = []
mesh_triangles o base (r ∷ rs) = shape_triangles r.closed base (drawn_of o r) ++ mesh_triangles o (base + shape_count (drawn_of o r)) rs

-- both, written from a place on
abbrev pub mesh_piece : Stroke → Place → List (Run Endpoint) → Piece
mesh_piece o k rs = record { vertices = mesh_vertices o rs; triangles = mesh_triangles o (next_vertex k) rs }

-- how many of each there are
pub record Tally : Type 0 where
  pub vertices : ℕ
  pub triangles : ℕ

abbrev pub mesh_counts : Stroke → List (Run Endpoint) → Tally
mesh_counts o rs = record { vertices = mesh_count o rs; triangles = length (mesh_triangles o 0 rs) }
