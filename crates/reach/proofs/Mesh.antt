-- From the mesh to the list: where the call answers 0, the list that it leaves holds the vertices of all runs, five floats to each, in order. Assumes nothing.
use mathlib.Core.Path.{◌≡◌, refl, sym, ap, ◌∙◌, subst}
use Prim.Native.Nat.{ℕ, zero, suc, ◌+◌, ◌*◌, ◌/◌, ◌≤◌, ◌<◌}
use mathlib.Core.Bool.{Bool, true, false, cond, true≢false}
use mathlib.Core.List.{List, [], ◌∷◌}
use native.Mathlib.Omega.{arith}
use borrow.Author.Tests.{ltb-false, eqb-true}
use lib.Dec.{ltb, eqb, lit<}
use lib.Ieee.{Float, nan}
use lib.ListN.{length, take, get_or}
use lib.Seq.{get_or-take}
use Rattle.lists.specs.Over.{flat}
use Rattle.refusals.specs.Numbers.{number_of, accepted, vertex_room, triangle_room}
use Rattle.endpoint.specs.declared.Endpoint.{Endpoint}
use Rattle.options.specs.Options.{stroke_of}
use Rattle.options.specs.declared.Options.{Options}
use Rattle.options.specs.declared.Stroke.{Stroke}
use Rattle.options.proofs.Accepted.{stroke_accepted}
use Rattle.path.specs.Runs.{Run}
use Rattle.cuts.specs.Checked.{cut_checked_of}
use Rattle.pieces.specs.Piece.{Vertex, Lists, flat_v}
use Rattle.runs.specs.Runs.{path_runs, mesh_vertices, mesh_count, mesh_triangles}
use Rattle.runs.proofs.Runs.{length_vertices}
use Rattle.mesh.specs.Answer.{with_counts, with_place, is_mesh, roomed_of}
use Rattle.mesh.specs.Demand3.{EarnsNone}
use Rattle.mesh.specs.declared.answer.MeshAnswer.{MeshAnswer}
use Rattle.mesh.specs.Mesh.{Outcome, refused, vertex_places, room_for, drawn, accepted_of, once_accepted, stroked_of, outcome_of}
use Rattle.mesh.proofs.Demand3.{demand_3}
use Rattle.mesh.proofs.Rooms.{smaller_both}

-- ---- the five floats of a vertex, in a list
pub record Spelt (fs : List Float) (i : ℕ) (v : Vertex) : Type 0 where
  pub x : get_or fs (5 * i + 0) nan ≡ v.x
  pub y : get_or fs (5 * i + 1) nan ≡ v.y
  pub normal_x : get_or fs (5 * i + 2) nan ≡ v.normal_x
  pub normal_y : get_or fs (5 * i + 3) nan ≡ v.normal_y
  pub advancement : get_or fs (5 * i + 4) nan ≡ v.advancement

-- what stands behind the end of a list of vertices
abbrev pub blank : Vertex
blank = record { x = nan; y = nan; normal_x = nan; normal_y = nan; advancement = nan; source = 0 }

pub spelt : (vs : List Vertex) (i : ℕ) → i < length vs → Spelt (flat_v vs) i (get_or vs i blank)
unfolding flat
spelt [] i h = absurd (omega arith)
spelt (v ∷ vs) zero h = record { x = refl; y = refl; normal_x = refl; normal_y = refl; advancement = refl }
spelt (v ∷ vs) (suc i) h =
    let S = spelt vs i (omega arith) in
    record { x = next 0 S.x; y = next 1 S.y; normal_x = next 2 S.normal_x; normal_y = next 3 S.normal_y; advancement = next 4 S.advancement }
  where
    next : {z : Float} (j : ℕ) → get_or (flat_v vs) (5 * i + j) nan ≡ z → get_or (flat_v (v ∷ vs)) (5 * suc i + j) nan ≡ z
    next {z} j e =
        let f : 5 * suc i + j ≡ suc (suc (suc (suc (suc (5 * i + j))))) = omega arith in
        subst (λ (n : ℕ). get_or (flat_v (v ∷ vs)) n nan ≡ z) (sym f) e

-- ---- where the call answers 0, nothing was refused
once_accepted_lem : (l : Lists) (number place : ℕ) (next : Outcome) → (once_accepted l number place next).answer.number ≡ number_of accepted → (number ≡ number_of accepted) × (next.answer.number ≡ number_of accepted)
once_accepted_lem l number place next e = go (eqb number (number_of accepted)) refl e
  where
    go : (t : Bool) → eqb number (number_of accepted) ≡ t → (cond t next (refused l (with_place number place))).answer.number ≡ number_of accepted
        → (number ≡ number_of accepted) × (next.answer.number ≡ number_of accepted)
    go true f e = (eqb-true number (number_of accepted) f, e)
    go false f e = absurd (true≢false (rw e at f))

roomed : (n m v t : ℕ) → (roomed_of n m v t).number ≡ number_of accepted → (n ≤ v) × (m ≤ t)
roomed n m v t e = go (ltb v n) (ltb t m) refl refl e
  where
    go : (a b : Bool) → ltb v n ≡ a → ltb t m ≡ b
        → (cond a (with_counts (number_of vertex_room) n m) (cond b (with_counts (number_of triangle_room) n m) (with_counts (number_of accepted) n m))).number ≡ number_of accepted → (n ≤ v) × (m ≤ t)
    go true b f g e = absurd (omega (arith, e))
    go false true f g e = absurd (omega (arith, e))
    go false false f g e = (ltb-false v n f, ltb-false t m g)

accepted_roomed : (l : Lists) (o : Stroke) (rs : List (Run Endpoint)) → (accepted_of l o rs).answer.number ≡ number_of accepted → (room_for l o rs).number ≡ number_of accepted
unfolding accepted_of
accepted_roomed l o rs e = go (is_mesh (room_for l o rs)) e
  where
    go : (t : Bool) → (cond t (drawn l o rs) (refused l (room_for l o rs))).answer.number ≡ number_of accepted → (room_for l o rs).number ≡ number_of accepted
    go true e = e
    go false e = e

-- ---- so the list holds every vertex that is counted
module _ (verbs : List ℕ) (coords : List Float) (options : Options) (ds : List Float) (l : Lists) where
  abbrev o : Stroke
  o = (stroke_of options ds).stroke

  abbrev rs : List (Run Endpoint)
  rs = path_runs o ds verbs coords

  abbrev out : Outcome
  out = outcome_of verbs coords options ds l

  pub record Left : Type 0 where
    pub earned : EarnsNone verbs coords options ds o
    pub count : out.answer.vertices ≡ length (mesh_vertices o rs)
    pub reads : (i : ℕ) → i < length (mesh_vertices o rs) → Spelt out.lists.vertices i (get_or (mesh_vertices o rs) i blank)

  taken : {fs : List Float} (n : ℕ) → take (5 * n) fs ≡ flat_v (mesh_vertices o rs) → n ≡ length (mesh_vertices o rs) → (i : ℕ) → i < length (mesh_vertices o rs) → Spelt fs i (get_or (mesh_vertices o rs) i blank)
  taken {fs} n e f i h =
      let S = spelt (mesh_vertices o rs) i h in
      record { x = at 0 (lit< tt) S.x; y = at 1 (lit< tt) S.y; normal_x = at 2 (lit< tt) S.normal_x; normal_y = at 3 (lit< tt) S.normal_y; advancement = at 4 (lit< tt) S.advancement }
    where
      at : {z : Float} (j : ℕ) → j < 5 → get_or (flat_v (mesh_vertices o rs)) (5 * i + j) nan ≡ z → get_or fs (5 * i + j) nan ≡ z
      at {z} j k g = sym (get_or-take (5 * n) fs (5 * i + j) nan (omega (arith, f))) ∙ ap (λ (xs : List Float). get_or xs (5 * i + j) nan) e ∙ g

  stroked : out.answer.number ≡ number_of accepted → ((stroke_of options ds).number ≡ number_of accepted) × ((stroked_of l verbs coords o ds).answer.number ≡ number_of accepted)
  unfolding outcome_of
  stroked e = once_accepted_lem l (stroke_of options ds).number (stroke_of options ds).place (stroked_of l verbs coords o ds) e

  checked : (stroked_of l verbs coords o ds).answer.number ≡ number_of accepted
      → ((cut_checked_of o.near ds o.offset verbs coords).number ≡ number_of accepted) × ((accepted_of l o rs).answer.number ≡ number_of accepted)
  unfolding stroked_of
  checked e = let a = cut_checked_of o.near ds o.offset verbs coords in once_accepted_lem l a.number a.place (accepted_of l o rs) e

  pub left : out.answer.number ≡ number_of accepted → Left
  left e =
      let a = stroked e in
      let b = checked a.1 in
      let E : EarnsNone verbs coords options ds o = record { within = stroke_accepted options ds a.0; accepted = b.0 } in
      let r = roomed (mesh_count o rs) (length (mesh_triangles o 0 rs)) (vertex_places l) (length l.triangles / 3) (accepted_roomed l o rs b.1) in
      let s = smaller_both (length l.vertices / 5) (length l.sources) in
      let w = (demand_3 verbs coords options ds o E l).rooms.enough (omega (arith, r.0, s.0)) (omega (arith, r.0, s.1)) (omega (arith, r.1)) in
      let n = length_vertices o rs in
      record { earned = E; count = ap (λ (m : MeshAnswer). m.vertices) w.answer ∙ sym n; reads = taken (mesh_count o rs) w.vertices (sym n) }
