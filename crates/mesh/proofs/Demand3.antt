-- Demand 3 of the whole mesh: each run stands as its own facts say, and the answer's counts decide about room. Assumes nothing.
use Prim.Native.Nat.{ℕ, ◌+◌, ◌*◌, ◌/◌, ◌≤◌, ◌<◌}
use mathlib.Core.Path.{◌≡◌, refl, ◌∙◌}
use mathlib.Core.List.{List, [], ◌∷◌}
use native.Mathlib.Omega.{arith}
use borrow.Author.Tests.{lt-ltb, le-ltb}
use lib.Ieee.{Float}
use lib.ListN.{length}
use Rattle.refusals.specs.Numbers.{number_of, accepted, vertex_room, triangle_room}
use Rattle.endpoint.specs.declared.Endpoint.{Endpoint}
use Rattle.lists.specs.Over.{over}
use Rattle.lists.proofs.Laws.{take_over, drop_over}
use Rattle.path.specs.Path.{Sound}
use Rattle.path.specs.Runs.{Run}
use Rattle.options.specs.declared.Options.{Options}
use Rattle.options.specs.declared.Stroke.{Stroke}
use Rattle.cuts.proofs.Checked.{cut_sound}
use Rattle.path.proofs.Runs.{formed, runs_verbs, runs_points}
use Rattle.kept.specs.Points.{endpoints_of}
use Rattle.kept.proofs.Indexed.{points_length}
use Rattle.pieces.specs.Piece.{Lists, lent, flat_v, flat_s, flat_t}
use Rattle.pieces.proofs.Pieces.{length_flat_v, length_flat_s, length_flat_t}
use Rattle.run.specs.Run.{shape_count}
use Rattle.run.proofs.Facts.{run_covers, run_linked, run_counts}
use Rattle.runs.specs.Runs.{path_runs, drawn_of, mesh_vertices, mesh_count, mesh_triangles}
use Rattle.runs.proofs.Runs.{length_vertices}
use Rattle.mesh.specs.Answer.{with_counts}
use Rattle.mesh.proofs.Rooms.{smaller_both, smaller_least}
use Rattle.mesh.specs.Demand3.{EarnsNone, RunStands, AllStand, Written, Roomed, Demand3}
use Rattle.mesh.specs.Mesh.{Outcome, refused, vertex_places, accepted_of, stroked_of, outcome_of}

-- ---- run by run
pub all_stand : (o : Stroke) (base : ℕ) (rs : List (Run Endpoint)) → AllStand o base rs
all_stand o base [] = tt
all_stand o base (r ∷ rs) =
    let stands : RunStands o base r = record { counts = run_counts o r.closed base r.points; covers = run_covers o r.closed base r.points; linked = run_linked o r.closed base r.points } in
    (stands, all_stand o (base + shape_count (drawn_of o r)) rs)

-- ---- rooms, of an accepted path
module _ (o : Stroke) (rs : List (Run Endpoint)) (l : Lists) where
  abbrev n : ℕ
  n = mesh_count o rs

  abbrev m : ℕ
  m = length (mesh_triangles o 0 rs)

  abbrev either : (vertex_places l ≤ length l.vertices / 5) × (vertex_places l ≤ length l.sources)
  either = smaller_both (length l.vertices / 5) (length l.sources)

  no_vertices : vertex_places l < n → accepted_of l o rs ≡ refused l (with_counts (number_of vertex_room) n m)
  unfolding accepted_of
  no_vertices h = rw (lt-ltb (vertex_places l) n h)

  places : 5 * n ≤ length l.vertices → n ≤ length l.sources → n ≤ vertex_places l
  places h g = smaller_least n (length l.vertices / 5) (length l.sources) (omega arith) g

  no_triangles : n ≤ vertex_places l → length l.triangles < 3 * m → accepted_of l o rs ≡ refused l (with_counts (number_of triangle_room) n m)
  unfolding accepted_of
  no_triangles h g = rw (le-ltb (vertex_places l) n h, lt-ltb (length l.triangles / 3) m (omega arith))

  abbrev whole : Outcome
  whole = record {
    answer = with_counts (number_of accepted) n m;
    lists = lent (over (flat_v (mesh_vertices o rs)) l.vertices) (over (flat_s (mesh_vertices o rs)) l.sources) (over (flat_t (mesh_triangles o 0 rs)) l.triangles);
  }

  module _ (h : 5 * n ≤ length l.vertices) (f : n ≤ length l.sources) (g : 3 * m ≤ length l.triangles) where
    is_whole : accepted_of l o rs ≡ whole
    unfolding accepted_of
    is_whole = rw (le-ltb (vertex_places l) n (places h f), le-ltb (length l.triangles / 3) m (omega arith))

    all_written : Written o rs l whole
    all_written =
        let lv : length (flat_v (mesh_vertices o rs)) ≡ 5 * n = omega (arith, length_flat_v (mesh_vertices o rs), length_vertices o rs) in
        let ls : length (flat_s (mesh_vertices o rs)) ≡ n = length_flat_s (mesh_vertices o rs) ∙ length_vertices o rs in
        let lt = length_flat_t (mesh_triangles o 0 rs) in
        record {
          answer = refl;
          vertices = rw (← lv) (take_over (flat_v (mesh_vertices o rs)) l.vertices (omega arith));
          sources = rw (← ls) (take_over (flat_s (mesh_vertices o rs)) l.sources (omega (arith, ls)));
          triangles = rw (← lt) (take_over (flat_t (mesh_triangles o 0 rs)) l.triangles (omega arith));
          vertices_behind = rw (← lv) (drop_over (flat_v (mesh_vertices o rs)) l.vertices);
          sources_behind = rw (← ls) (drop_over (flat_s (mesh_vertices o rs)) l.sources);
          triangles_behind = rw (← lt) (drop_over (flat_t (mesh_triangles o 0 rs)) l.triangles);
        }

  rooms_decide : Roomed o rs l (accepted_of l o rs)
  rooms_decide = record {
    few_vertices = λ h. no_vertices (omega (arith, either.0));
    few_sources = λ h. no_vertices (omega (arith, either.1));
    few_triangles = λ h f g. no_triangles (places h f) g;
    enough = λ h f g. rw (is_whole h f g) (all_written h f g);
  }

-- ---- the whole call
pub demand_3 : (verbs : List ℕ) (coords : List Float) (options : Options) (ds : List Float) (o : Stroke) → EarnsNone verbs coords options ds o → (l : Lists) → Demand3 verbs coords options ds o l
unfolding outcome_of stroked_of
demand_3 verbs coords options ds o e l =
    let s : Sound verbs coords = (cut_sound o.near ds o.offset verbs coords e.accepted).0 in
    let f = formed verbs s.placed s.ended in
    let p = points_length coords 0 in
    record {
      verbs_are = runs_verbs verbs f (endpoints_of 0 coords) (omega (arith, s.paired));
      points_are = runs_points verbs f (endpoints_of 0 coords) (omega (arith, s.paired));
      each = all_stand o 0 (path_runs o ds verbs coords);
      rooms = rw (e.within, e.accepted) (rooms_decide o (path_runs o ds verbs coords) l);
    }
