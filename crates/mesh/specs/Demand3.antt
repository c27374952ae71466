-- Demand 3, in the mission's words, and W-207's: it "speaks of refusals 1 to 4", and W-213's: "26 joins 1 to 4", for every path that earns none of them. "Demands 2 and 3
-- read of the cut runs" (W-213), which are the path's own where there are no dashes. That it holds is proofs/Demand3.antt. Assumes nothing.
use Rattle.std.specs.Prelude.{ℕ, ◌+◌, ◌*◌, ◌≤◌, ◌<◌, ◌≡◌, List, [], ◌∷◌, false, ltb, Float, length, take, drop}
use Rattle.refusals.specs.Numbers.{number_of, accepted, vertex_room, triangle_room}
use Rattle.endpoint.specs.declared.Endpoint.{Endpoint}
use Rattle.options.specs.Options.{is_round, accepting, stroke_of}
use Rattle.cuts.specs.Checked.{cut_checked_of}
use Rattle.path.specs.Runs.{Run, verbs_of, points_of}
use Rattle.options.specs.declared.Options.{Options}
use Rattle.options.specs.declared.Stroke.{Stroke}
use Rattle.kept.specs.Points.{endpoints_of}
use Rattle.joints.specs.Joint.{joints_of}
use Rattle.kept.specs.Kept.{kept_points}
use Rattle.pieces.specs.Piece.{Lists, flat_v, flat_s, flat_t}
use Rattle.strip.specs.Joint.{pair_sides}
use Rattle.triangles.specs.Attached.{Covers}
use Rattle.triangles.specs.Facts.{Linked}
use Rattle.run.specs.Facts.{RunCounts}
use Rattle.run.specs.Run.{draws_cap, cap_size, arcs_added, shape_count, shape_triangles}
use Rattle.runs.specs.Runs.{runs_of, path_runs, drawn_of, mesh_vertices, mesh_count, mesh_triangles}
use Rattle.mesh.specs.Answer.{with_counts}
use Rattle.mesh.specs.Mesh.{Outcome, refused, outcome_of}

-- none of refusals 1 to 4 and 26 is earned, and the options come to o
pub record EarnsNone (verbs : List ℕ) (coords : List Float) (options : Options) (ds : List Float) (o : Stroke) : Type 0 where
  pub within : stroke_of options ds ≡ accepting o
  pub accepted : (cut_checked_of o.near ds o.offset verbs coords).number ≡ number_of accepted

-- "Counts follow from the join rules alone": by the points kept, their pair sides, what arcs add and, where one is kept, whether it draws the empty cap (a run has a line
-- verb where it has more than one point); "each triangle names three different vertices of its run, every vertex is named", and each but a run's first shares exactly two
-- vertices "with some earlier triangle of the run" (W-209); where nothing is round, "with the one before". A run whose vertices are numbered from base.
pub record RunStands (o : Stroke) (base : ℕ) (r : Run Endpoint) : Type 0 where
  pub counts : let kept = kept_points o.near r.closed r.points in
      RunCounts r.closed (draws_cap o.cap r.closed (ltb 1 (length r.points))) (cap_size o) (length kept) (pair_sides (joints_of r.closed o kept)) (arcs_added r.closed o kept)
      (shape_count (drawn_of o r)) (length (shape_triangles r.closed base (drawn_of o r)))
  pub covers : Covers base (base + shape_count (drawn_of o r)) (shape_triangles r.closed base (drawn_of o r))
  pub linked : is_round o ≡ false → Linked (shape_triangles r.closed base (drawn_of o r))

-- run by run, vertex numbers going on over all runs
abbrev pub AllStand : Stroke → ℕ → List (Run Endpoint) → Type 0
AllStand o base [] = Unit
AllStand o base (r ∷ rs) = RunStands o base r × AllStand o (base + shape_count (drawn_of o r)) rs

-- what a call leaves where there is room: the answer 0 with both counts, "exactly so many are written", and nothing behind them
pub record Written (o : Stroke) (rs : List (Run Endpoint)) (l : Lists) (out : Outcome) : Type 0 where
  pub answer : out.answer ≡ with_counts (number_of accepted) (mesh_count o rs) (length (mesh_triangles o 0 rs))
  pub vertices : take (5 * mesh_count o rs) out.lists.vertices ≡ flat_v (mesh_vertices o rs)
  pub sources : take (mesh_count o rs) out.lists.sources ≡ flat_s (mesh_vertices o rs)
  pub triangles : take (3 * length (mesh_triangles o 0 rs)) out.lists.triangles ≡ flat_t (mesh_triangles o 0 rs)
  pub vertices_behind : drop (5 * mesh_count o rs) out.lists.vertices ≡ drop (5 * mesh_count o rs) l.vertices
  pub sources_behind : drop (mesh_count o rs) out.lists.sources ≡ drop (mesh_count o rs) l.sources
  pub triangles_behind : drop (3 * length (mesh_triangles o 0 rs)) out.lists.triangles ≡ drop (3 * length (mesh_triangles o 0 rs)) l.triangles

-- "refused for want of room exactly when a list is too short for the numbers, and the refusal states both; otherwise exactly so many are written"; W-206: "6 also
-- when the new list is too short"
pub record Roomed (o : Stroke) (rs : List (Run Endpoint)) (l : Lists) (out : Outcome) : Type 0 where
  pub few_vertices : length l.vertices < 5 * mesh_count o rs → out ≡ refused l (with_counts (number_of vertex_room) (mesh_count o rs) (length (mesh_triangles o 0 rs)))
  pub few_sources : length l.sources < mesh_count o rs → out ≡ refused l (with_counts (number_of vertex_room) (mesh_count o rs) (length (mesh_triangles o 0 rs)))
  pub few_triangles : 5 * mesh_count o rs ≤ length l.vertices → mesh_count o rs ≤ length l.sources → length l.triangles < 3 * length (mesh_triangles o 0 rs)
      → out ≡ refused l (with_counts (number_of triangle_room) (mesh_count o rs) (length (mesh_triangles o 0 rs)))
  pub enough : 5 * mesh_count o rs ≤ length l.vertices → mesh_count o rs ≤ length l.sources → 3 * length (mesh_triangles o 0 rs) ≤ length l.triangles → Written o rs l out

pub record Demand3 (verbs : List ℕ) (coords : List Float) (options : Options) (ds : List Float) (o : Stroke) (l : Lists) : Type 0 where
  -- the uncut runs are the whole path, in order
  pub verbs_are : verbs_of (runs_of verbs coords) ≡ verbs
  pub points_are : points_of (runs_of verbs coords) ≡ endpoints_of 0 coords
  pub each : AllStand o 0 (path_runs o ds verbs coords)
  pub rooms : Roomed o (path_runs o ds verbs coords) l (outcome_of verbs coords options ds l)
