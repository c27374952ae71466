-- What is woven has as many triangles more than the strip as it has vertices: of joints one after another, and of a run's. A closed run has, once round, as many of
-- both in all. Assumes nothing.
use Prim.Native.Nat.{ℕ, ◌+◌, ◌-◌, ◌≤◌}
use mathlib.Core.Path.{◌≡◌, refl, sym, ap, ◌∙◌}
use mathlib.Core.Bool.{Bool, true, false}
use mathlib.Core.List.{List, [], ◌∷◌, ◌++◌}
use native.Mathlib.Omega.{arith}
use lib.ListN.{length, length-append}
use Rattle.endpoint.specs.Endpoint.{single_of}
use Rattle.endpoint.specs.declared.Endpoint.{Endpoint}
use Rattle.endpoint.specs.declared.EndpointData.{EndpointData}
use Rattle.endpoint.specs.declared.VertexId.{VertexId}
use Rattle.options.specs.declared.Stroke.{Stroke}
use Rattle.joints.specs.Joint.{data_of, joint_of, cap_of, start_cap_of, joints_from, joints_of}
use Rattle.joints.specs.Leg.{first_leg_of, next_leg_of}
use Rattle.joints.specs.declared.leg.Leg.{Leg}
use Rattle.joints.proofs.Lengths.{joints_length}
use Rattle.strip.specs.Joint.{vertex_count}
use Rattle.strip.specs.Section.{section_of}
use Rattle.strip.specs.Strip.{start_of, next_of, step_of, steps_of, step_triangles, triangles_from}
use Rattle.strip.specs.Triangle.{triangles_of}
use Rattle.strip.specs.declared.Strip.{Strip}
use Rattle.strip.proofs.Facts.Counts.{closed_count}
use Rattle.strip.proofs.Runs.{triangles_are}
use Rattle.strip.proofs.Triangles.{between_same}
use Rattle.fans.specs.Weft.{then}
use Rattle.fans.specs.declared.Round.{Round}
use Rattle.fans.proofs.Sizes.{Sized, then_sized}
use Rattle.bends.specs.Bend.{bend_weft, bend_size}
use Rattle.bends.specs.Weave.{joints_in, woven_from}
use Rattle.bends.specs.declared.Bend.{Bend}
use Rattle.bends.proofs.Sizes.{bend_sized}
use Rattle.weave.specs.Points.{bends_from, bends_of}
use Rattle.woven.specs.Woven.{way_round, woven_of}

-- how many vertices the arcs have
pub woven_size : Round → Bool → List Bend → ℕ
woven_size r due [] = 0
woven_size r due (b ∷ bs) = bend_size r due b + woven_size r false bs

pub woven_sized : (o : Stroke) (r : Round) (s : Strip) (due : Bool) (bs : List Bend) (i : ℕ)
    → Sized (woven_size r due bs) (length (triangles_from s (joints_in bs)) + woven_size r due bs) (woven_from o r s due bs i)
unfolding woven_size woven_from triangles_from
woven_sized o r s due [] i = record { vertices = refl; triangles = refl }
woven_sized o r s due (b ∷ bs) i =
    let s1 = step_of s b.joint in
    let z = then_sized (bend_weft o r s due b) (woven_from o r s1 false bs) i (bend_sized o r s due b i) (λ n. woven_sized o r s1 false bs n) in
    record { vertices = z.vertices; triangles = rw length-append (omega (arith, z.triangles)) }

pub joints_from_lem : (closed : Bool) (o : Stroke) (leg : Leg) (ps : List Endpoint) → joints_in (bends_from closed o leg ps) ≡ joints_from closed o leg ps
unfolding bends_from joints_from
joints_from_lem true o leg [] = refl
joints_from_lem false o leg [] = refl
joints_from_lem closed o leg (p ∷ ps) = ap (λ (js : List EndpointData). joint_of o leg (next_leg_of o.half_width leg p) ∷ js) (joints_from_lem closed o (next_leg_of o.half_width leg p) ps)

-- a start cap has no triangle of its own
cap_none : (o : Stroke) (leg : Leg) (base : VertexId) → step_triangles (start_of base) (start_cap_of o leg) ≡ []
unfolding step_triangles start_cap_of cap_of data_of single_of
cap_none o leg base =
    let n = next_of (start_of base) in
    let z : n + 1 + 1 - 1 ≡ n + 1 = omega arith in
    let y : n + 1 - 1 ≡ n = omega arith in
    rw (z, y, between_same (section_of (n + 1) n))

-- a closed run has a joint to each of its points, two at least
all_named : (base : ℕ) (js : List EndpointData) → 2 ≤ length js → length (triangles_of true base js) ≡ vertex_count js
all_named base [] h = absurd (omega arith)
all_named base (j ∷ []) h = absurd (omega arith)
all_named base (j ∷ i ∷ js) h = closed_count base j i js

module _ (o : Stroke) (p0 p1 : Endpoint) (ps : List Endpoint) where
  abbrev kept : List Endpoint
  kept = p0 ∷ p1 ∷ ps

  abbrev first : Leg
  first = first_leg_of o.half_width p0 p1

  pub joints_open : joints_of false o kept ≡ start_cap_of o first ∷ joints_in (bends_of false o kept)
  unfolding joints_of bends_of
  joints_open = ap (λ (js : List EndpointData). start_cap_of o first ∷ js) (sym (joints_from_lem false o first ps))

  pub joints_closed : joints_of true o kept ≡ joints_in (bends_of true o kept)
  unfolding joints_of bends_of
  joints_closed = sym (joints_from_lem true o first (ps ++ p0 ∷ p1 ∷ []))

  module _ (r : Round) (base : VertexId) (i : ℕ) where
    same_faces : length (triangles_from (start_of base) (joints_of false o kept)) ≡ length (triangles_from (step_of (start_of base) (start_cap_of o first)) (joints_in (bends_of false o kept)))
    unfolding triangles_from
    same_faces = rw (joints_open, cap_none o first base)

    once_round : length (triangles_from (start_of base) (joints_of true o kept)) + length (way_round (steps_of (start_of base) (joints_of true o kept))) ≡ vertex_count (joints_of true o kept)
    once_round =
        let js = joints_of true o kept in
        let a = ap length (triangles_are true base js) ∙ length-append (triangles_from (start_of base) js) (way_round (steps_of (start_of base) js)) in
        sym a ∙ all_named base.0 js (omega (arith, joints_length true o p0 p1 ps))

    pub closed_sized : length (woven_of true o r base kept i).triangles ≡ vertex_count (joints_of true o kept) + length (woven_of true o r base kept i).vertices
    unfolding woven_of then
    closed_sized =
        let z = woven_sized o r (start_of base) false (bends_of true o kept) i in
        rw (joints_closed, length-append, length-append) (omega (arith, z.vertices, z.triangles, rw joints_closed at once_round))

-- the strip has no more triangles
pub woven_more : (closed : Bool) (o : Stroke) (r : Round) (base : VertexId) (ps : List Endpoint) (i : ℕ)
    → length (triangles_from (start_of base) (joints_of closed o ps)) ≤ length (woven_of closed o r base ps i).triangles
unfolding woven_of then joints_of triangles_from
woven_more closed o r base [] i = omega arith
woven_more closed o r base (p ∷ []) i = omega arith
woven_more true o r base (p0 ∷ p1 ∷ ps) i =
    let z = woven_sized o r (start_of base) false (bends_of true o (p0 ∷ p1 ∷ ps)) i in
    rw (joints_closed o p0 p1 ps, length-append) (omega (arith, z.triangles))
woven_more false o r base (p0 ∷ p1 ∷ ps) i =
    let s = step_of (start_of base) (start_cap_of o (first_leg_of o.half_width p0 p1)) in
    let z = woven_sized o r s r.caps (bends_of false o (p0 ∷ p1 ∷ ps)) i in
    omega (arith, z.triangles, same_faces o p0 p1 ps r base i)
