-- "Writing with exactly the measured room is never refused for room; with one place less in any list that needs one, always": by demand 3. Assumes nothing.
use Prim.Native.Nat.{ℕ, ◌*◌, ◌≤◌}
use mathlib.Core.Path.{◌≡◌, refl, sym, ap, ◌∙◌}
use mathlib.Core.Bool.{Bool, true, false, cond}
use mathlib.Core.List.{List}
use native.Mathlib.Omega.{arith}
use lib.Dec.{eqb}
use lib.Ieee.{Float}
use lib.ListN.{length}
use borrow.Author.Tests.{eqb-true, eqb-false}
use Rattle.refusals.specs.Numbers.{number_of, accepted}
use Rattle.options.specs.Options.{stroke_of}
use Rattle.options.specs.declared.Options.{Options}
use Rattle.options.specs.declared.Stroke.{Stroke}
use Rattle.options.proofs.Accepted.{stroke_accepted}
use Rattle.cuts.specs.Checked.{cut_checked_of}
use Rattle.pieces.specs.Piece.{Lists}
use Rattle.runs.specs.Runs.{path_runs, mesh_count, mesh_triangles}
use Rattle.mesh.specs.Answer.{with_counts, with_place}
use Rattle.mesh.specs.Demand3.{EarnsNone, Roomed}
use Rattle.mesh.specs.Mesh.{outcome_of}
use Rattle.mesh.specs.declared.answer.MeshAnswer.{MeshAnswer}
use Rattle.mesh.proofs.Demand3.{demand_3}
use Rattle.measure.specs.Answer.{once_accepted}
use Rattle.measure.specs.Measure.{counts_of, measured_of, measure_of}
use Rattle.measure.specs.Room.{MeasuredRoom}

-- an answer of 0 is given where nothing is refused before
once_accepted_lem : (number place : ℕ) (next : MeshAnswer) → (once_accepted with_place number place next).number ≡ number_of accepted → (number ≡ number_of accepted) × (once_accepted with_place number place next ≡ next)
once_accepted_lem number place next = go (eqb number (number_of accepted)) refl
  where
    go : (t : Bool) → eqb number (number_of accepted) ≡ t → (cond t next (with_place number place)).number ≡ number_of accepted → (number ≡ number_of accepted) × (cond t next (with_place number place) ≡ next)
    go true p e = (eqb-true _ _ p, refl)
    go false p e = absurd (eqb-false number (number_of accepted) p e)

module _ (verbs : List ℕ) (coords : List Float) (options : Options) (ds : List Float) (n m : ℕ) (e : measure_of verbs coords options ds ≡ with_counts (number_of accepted) n m) where
  abbrev o : Stroke
  o = (stroke_of options ds).stroke

  first : ((stroke_of options ds).number ≡ number_of accepted) × (measure_of verbs coords options ds ≡ measured_of verbs coords o ds)
  unfolding measure_of
  first = once_accepted_lem (stroke_of options ds).number (stroke_of options ds).place (measured_of verbs coords o ds) (ap (λ (a : MeshAnswer). a.number) e)

  then : ((cut_checked_of o.near ds o.offset verbs coords).number ≡ number_of accepted) × (measured_of verbs coords o ds ≡ counts_of o (path_runs o ds verbs coords))
  unfolding measured_of
  then = once_accepted_lem (cut_checked_of o.near ds o.offset verbs coords).number (cut_checked_of o.near ds o.offset verbs coords).place (counts_of o (path_runs o ds verbs coords)) (ap (λ (a : MeshAnswer). a.number) (sym first.1 ∙ e))

  counts : counts_of o (path_runs o ds verbs coords) ≡ with_counts (number_of accepted) n m
  counts = sym then.1 ∙ sym first.1 ∙ e

  pub measured_earns : EarnsNone verbs coords options ds o
  measured_earns = record { within = stroke_accepted options ds first.0; accepted = then.0 }

  module _ (l : Lists) where
    abbrev rooms : Roomed o (path_runs o ds verbs coords) l (outcome_of verbs coords options ds l)
    rooms = (demand_3 verbs coords options ds o measured_earns l).rooms

    vertices_are : mesh_count o (path_runs o ds verbs coords) ≡ n
    vertices_are = ap (λ (a : MeshAnswer). a.vertices) counts

    triangles_are : length (mesh_triangles o 0 (path_runs o ds verbs coords)) ≡ m
    triangles_are = ap (λ (a : MeshAnswer). a.triangles) counts

    room_enough : 5 * n ≤ length l.vertices → n ≤ length l.sources → 3 * m ≤ length l.triangles → (outcome_of verbs coords options ds l).answer ≡ with_counts (number_of accepted) n m
    room_enough h i g = rw (vertices_are, triangles_are) at (rooms.enough (omega (arith, vertices_are, h)) (omega (arith, vertices_are, i)) (omega (arith, triangles_are, g))).answer

    pub measured_room : MeasuredRoom verbs coords options ds n m l
    measured_room = record {
      exact = λ h i g. room_enough (omega (arith, h)) (omega (arith, i)) (omega (arith, g));
      enough = room_enough;
      fewer_vertices = λ h. rw (vertices_are, triangles_are) at (rooms.few_vertices (omega (arith, vertices_are, h)));
      fewer_sources = λ h. rw (vertices_are, triangles_are) at (rooms.few_sources (omega (arith, vertices_are, h)));
      fewer_triangles = λ h i g. rw (vertices_are, triangles_are) at (rooms.few_triangles (omega (arith, vertices_are, h)) (omega (arith, vertices_are, i)) (omega (arith, triangles_are, g)));
    }
