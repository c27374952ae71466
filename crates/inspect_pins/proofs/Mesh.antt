-- Every mesh that the mesh call writes passes the first question; the second is 0 exactly where at most one run is drawn, and of each run. Assumes nothing.
use Prim.Native.Nat.{ℕ, ◌+◌, ◌*◌, ◌≤◌}
use mathlib.Core.Path.{◌≡◌, refl, ap, subst, ◌∙◌}
use mathlib.Core.List.{List, [], ◌∷◌, ◌++◌}
use native.Mathlib.Nat.{zero-add}
use native.Mathlib.Omega.{arith}
use lib.Ieee.{Float}
use lib.ListN.{length}
use Rattle.lists.specs.Over.{flat}
use Rattle.refusals.specs.Numbers.{verdict, not_attached}
use Rattle.refusals.specs.declared.Verdict.{Verdict}
use Rattle.endpoint.specs.declared.Endpoint.{Endpoint}
use Rattle.triangles.specs.Attached.{Covers}
use Rattle.triangles.specs.Tri.{Tri}
use Rattle.options.specs.declared.Options.{Options}
use Rattle.options.specs.declared.Stroke.{Stroke}
use Rattle.path.specs.Runs.{Run}
use Rattle.pieces.specs.Piece.{Lists, flat_t}
use Rattle.run.specs.Run.{shape_count, shape_triangles}
use Rattle.run.proofs.Facts.{run_covers}
use Rattle.runs.specs.Runs.{path_runs, drawn_of, mesh_count, mesh_triangles}
use Rattle.mesh.specs.Demand3.{EarnsNone, AllStand}
use Rattle.mesh.specs.Mesh.{Outcome, outcome_of}
use Rattle.mesh.proofs.Demand3.{demand_3}
use Rattle.inspect.specs.Answer.{sound, check_of, check_attached_of}
use Rattle.inspect.specs.Together.{together, drawn_runs, first_drawn, Runs, none, run}
use Rattle.inspect.proofs.Exact.{all_held, attached_passes}
use Rattle.inspect.proofs.Listed.{own_sound, joined_attached}
use Rattle.inspect.proofs.Runs.{runs_pass, one_attached, more_apart}
use Rattle.inspect_pins.specs.Mesh.{mesh_numbers, mesh_checked, mesh_attached, run_triangles, RunAttached, AllAttached}

-- ---- a mesh's triangles are its runs', and demand 3 is what the checker's laws ask of each
triangles_together : (o : Stroke) (base : ℕ) (rs : List (Run Endpoint)) → mesh_triangles o base rs ≡ together (run_triangles o base rs)
unfolding mesh_triangles run_triangles flat
triangles_together o base [] = refl
triangles_together o base (r ∷ rs) = ap (λ (ts : List Tri). shape_triangles r.closed base (drawn_of o r) ++ ts) (triangles_together o (base + shape_count (drawn_of o r)) rs)

stand_runs : (o : Stroke) (base : ℕ) (rs : List (Run Endpoint)) → AllStand o base rs → Runs base (base + mesh_count o rs) (run_triangles o base rs)
unfolding mesh_count run_triangles
stand_runs o base [] s = subst (λ (n : ℕ). Runs base n []) (omega arith) none
stand_runs o base (r ∷ rs) s =
    let n = shape_count (drawn_of o r) in
    let later = stand_runs o (base + n) rs s.1 in
    let e : base + n + mesh_count o rs ≡ base + (n + mesh_count o rs) = omega arith in
    let c = s.0.covers in
    run {lo = base} {mid = base + n} (omega arith) c.own (λ x h. c.named x h.0 h.1) c.joined (subst (λ (k : ℕ). Runs (base + n) k (run_triangles o (base + n) rs)) e later)

-- ---- run by run
run_attached : (o : Stroke) (base : ℕ) (r : Run Endpoint) → RunAttached o base r
run_attached o base r =
    let here = run_covers o r.closed base r.points in
    let n = shape_count (drawn_of o r) in
    let own = shape_triangles r.closed 0 (drawn_of o r) in
    let alone = subst (λ (m : ℕ). Covers 0 m own) (zero-add n) (run_covers o r.closed 0 r.points) in
    record {
      part = all_held (flat_t (shape_triangles r.closed base (drawn_of o r))) (joined_attached (shape_triangles r.closed base (drawn_of o r)) here.joined);
      alone = attached_passes n (flat_t own) (own_sound n own alone.own (λ x h. alone.named x (omega arith) h)) (joined_attached own alone.joined);
    }

pub run_by_run : (o : Stroke) (base : ℕ) (rs : List (Run Endpoint)) → AllAttached o base rs
run_by_run o base [] = tt
run_by_run o base (r ∷ rs) = (run_attached o base r, run_by_run o (base + shape_count (drawn_of o r)) rs)

-- ---- the whole mesh: a path that earns none of refusals 1 to 4, in lists with room
module _ (verbs : List ℕ) (coords : List Float) (options : Options) (ds : List Float) (o : Stroke) (e : EarnsNone verbs coords options ds o) (l : Lists)
    (h : 5 * mesh_count o (path_runs o ds verbs coords) ≤ length l.vertices) (k : mesh_count o (path_runs o ds verbs coords) ≤ length l.sources) (g : 3 * length (mesh_triangles o 0 (path_runs o ds verbs coords)) ≤ length l.triangles)
  where
    abbrev rs : List (Run Endpoint)
    rs = path_runs o ds verbs coords

    abbrev out : Outcome
    out = outcome_of verbs coords options ds l

    each : Runs 0 (mesh_count o rs) (run_triangles o 0 rs)
    each = subst (λ (n : ℕ). Runs 0 n (run_triangles o 0 rs)) (zero-add (mesh_count o rs)) (stand_runs o 0 rs (demand_3 verbs coords options ds o e l).each)

    -- what a question is asked of: the counts, and the triangles of all runs
    asked : (question : ℕ → List ℕ → Verdict) → question out.answer.vertices (mesh_numbers out) ≡ question (mesh_count o rs) (flat_t (together (run_triangles o 0 rs)))
    asked question =
        let w = (demand_3 verbs coords options ds o e l).rooms.enough h k g in
        rw w.answer (ap (question (mesh_count o rs)) (w.triangles ∙ ap flat_t (triangles_together o 0 rs)))

    -- "Prove that every mesh we write passes."
    pub mesh_passes : mesh_checked out ≡ sound
    mesh_passes = asked check_of ∙ runs_pass (mesh_count o rs) (run_triangles o 0 rs) each

    pub one_run_attached : drawn_runs (run_triangles o 0 rs) ≤ 1 → mesh_attached out ≡ sound
    one_run_attached few = asked check_attached_of ∙ one_attached (mesh_count o rs) (run_triangles o 0 rs) each few

    -- 24 at the first triangle of the second run that is drawn
    pub two_runs_apart : 2 ≤ drawn_runs (run_triangles o 0 rs) → mesh_attached out ≡ verdict not_attached (first_drawn (run_triangles o 0 rs))
    two_runs_apart more = asked check_attached_of ∙ more_apart (mesh_count o rs) (run_triangles o 0 rs) each more
