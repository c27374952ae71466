-- The mesh call: its answer in document 01's numbers, and all lists whole, for every path, every option and all lists. Assumes nothing.
use Rattle.std.specs.Prelude.{ℕ, ◌/◌, cond, List, Result, eqb, Float, length}
use Rattle.refusals.specs.Numbers.{number_of, accepted}
use Rattle.endpoint.specs.declared.Endpoint.{Endpoint}
use Rattle.lists.specs.Over.{over}
use Rattle.options.specs.Options.{stroke_of}
use Rattle.cuts.specs.Checked.{cut_checked_of}
use Rattle.path.specs.Runs.{Run}
use Rattle.options.specs.declared.Options.{Options}
use Rattle.options.specs.declared.Stroke.{Stroke}
use Rattle.pieces.specs.Piece.{Lists, lent, flat_v, flat_s, flat_t}
use Rattle.runs.specs.Runs.{path_runs, mesh_vertices, mesh_count, mesh_triangles}
use Rattle.mesh.specs.Answer.{mesh_answer_of, with_place, is_mesh, smaller_of, roomed_of}
use Rattle.mesh.specs.declared.answer.MeshSize.{MeshSize}
use Rattle.mesh.specs.declared.answer.MeshError.{MeshError}
use Rattle.mesh.specs.declared.answer.MeshAnswer.{MeshAnswer}

-- the numbers of an answer, and the lent lists after the call
pub record Outcome : Type 0 where
  pub answer : MeshAnswer
  pub lists : Lists

-- what a call left that answered so
abbrev pub answered : Result MeshSize MeshError → List Float → List ℕ → List ℕ → Outcome
answered r v s t = record { answer = mesh_answer_of r; lists = lent v s t }

-- the lists that are lent
module _ (l : Lists) where
  -- "A refusal leaves all lent lists .. as before the call."
  abbrev pub refused : MeshAnswer → Outcome
  refused answer = record { answer = answer; lists = l }

  -- "Room is the list's length over 5 or 3, rounded down.", and W-206: "vertex room is now the smaller of the two lists' rooms"
  abbrev pub vertex_places : ℕ
  vertex_places = smaller_of (length l.vertices / 5) (length l.sources)

  abbrev pub room_for : Stroke → List (Run Endpoint) → MeshAnswer
  room_for o rs = roomed_of (mesh_count o rs) (length (mesh_triangles o 0 rs)) vertex_places (length l.triangles / 3)

  -- "After 0, list places beyond those counted keep their contents."
  abbrev pub drawn : Stroke → List (Run Endpoint) → Outcome
  drawn o rs = record {
    answer = room_for o rs;
    lists = lent (over (flat_v (mesh_vertices o rs)) l.vertices) (over (flat_s (mesh_vertices o rs)) l.sources) (over (flat_t (mesh_triangles o 0 rs)) l.triangles);
  }

  -- of an accepted path
  unfoldable pub accepted_of : Stroke → List (Run Endpoint) → Outcome
  accepted_of o rs = cond (is_mesh (room_for o rs)) (drawn o rs) (refused (room_for o rs))

  -- "Order is by number within a call": what is refused before, with its place, or what comes then
  abbrev pub once_accepted : ℕ → ℕ → Outcome → Outcome
  once_accepted number place next = cond (eqb number (number_of accepted)) next (refused (with_place number place))

  -- refusals 2, 3 and 4, and W-213: "26, .. directly after 4"
  unfoldable pub stroked_of : List ℕ → List Float → Stroke → List Float → Outcome
  stroked_of verbs coords o ds = let a = cut_checked_of o.near ds o.offset verbs coords in once_accepted a.number a.place (accepted_of o (path_runs o ds verbs coords))

-- refusal 1; the lengths of the dashes are ds
unfoldable pub outcome_of : List ℕ → List Float → Options → List Float → Lists → Outcome
outcome_of verbs coords options ds l = let a = stroke_of options ds in once_accepted l a.number a.place (stroked_of l verbs coords a.stroke ds)
