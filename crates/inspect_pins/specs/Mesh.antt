-- The mesh that the mesh call leaves, as the checker takes it: the count of its vertices, and its triangles' list cut to their count. Assumes nothing.
use Rattle.std.specs.Prelude.{ℕ, ◌+◌, ◌*◌, ◌≡◌, List, [], ◌∷◌, take}
use Rattle.refusals.specs.declared.Verdict.{Verdict}
use Rattle.endpoint.specs.declared.Endpoint.{Endpoint}
use Rattle.triangles.specs.Tri.{Tri}
use Rattle.options.specs.declared.Stroke.{Stroke}
use Rattle.pieces.specs.Piece.{flat_t}
use Rattle.path.specs.Runs.{Run}
use Rattle.run.specs.Run.{shape_count, shape_triangles}
use Rattle.runs.specs.Runs.{drawn_of}
use Rattle.mesh.specs.Mesh.{Outcome}
use Rattle.inspect.specs.Answer.{sound, attached_of, check_of, check_attached_of}

abbrev pub mesh_numbers : Outcome → List ℕ
mesh_numbers out = take (3 * out.answer.triangles) out.lists.triangles

abbrev pub mesh_checked : Outcome → Verdict
mesh_checked out = check_of out.answer.vertices (mesh_numbers out)

abbrev pub mesh_attached : Outcome → Verdict
mesh_attached out = check_attached_of out.answer.vertices (mesh_numbers out)

-- the triangles of each run, vertex numbers going on over all runs
unfoldable pub run_triangles : Stroke → ℕ → List (Run Endpoint) → List (List Tri)
run_triangles o base [] = []
run_triangles o base (r ∷ rs) = shape_triangles r.closed base (drawn_of o r) ∷ run_triangles o (base + shape_count (drawn_of o r)) rs

-- The second question of one run: of its triangles as they are numbered in the mesh, and of the run numbered by itself, after the same tests.
pub record RunAttached (o : Stroke) (base : ℕ) (r : Run Endpoint) : Type 0 where
  pub part : attached_of (flat_t (shape_triangles r.closed base (drawn_of o r))) ≡ sound
  pub alone : check_attached_of (shape_count (drawn_of o r)) (flat_t (shape_triangles r.closed 0 (drawn_of o r))) ≡ sound

-- run by run
abbrev pub AllAttached : Stroke → ℕ → List (Run Endpoint) → Type 0
AllAttached o base [] = Unit
AllAttached o base (r ∷ rs) = RunAttached o base r × AllAttached o (base + shape_count (drawn_of o r)) rs
