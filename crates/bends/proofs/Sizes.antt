-- A joint brings as many vertices as its arcs have, and as many triangles more than the strip's own. Assumes nothing.
use Prim.Native.Nat.{ℕ, suc, ◌+◌, ◌-◌, ◌^◌, ◌≤◌}
use mathlib.Core.Path.{◌≡◌, sym}
use mathlib.Core.Bool.{Bool, true, false, cond, ◌&&◌}
use mathlib.Core.List.{[], ◌++◌}
use native.Mathlib.Omega.{arith}
use lib.ListN.{length, length-append}
use Rattle.endpoint.specs.declared.EndpointData.{EndpointData}
use Rattle.endpoint.specs.declared.Side.TheVariants.{Positive, Negative}
use Rattle.pieces.specs.Piece.{behind, next_vertex}
use Rattle.plane.specs.Vector.{negated_of}
use Rattle.options.specs.declared.Stroke.{Stroke}
use Rattle.joints.specs.Joint.{start_cap_of}
use Rattle.strip.specs.Section.{before_of, after_of}
use Rattle.strip.specs.Strip.{next_of, step_triangles, step_of}
use Rattle.strip.specs.Triangle.{between}
use Rattle.strip.specs.declared.Strip.{Strip}
use Rattle.strip.specs.declared.section.Section.{Section}
use Rattle.strip.proofs.Triangles.{between_same}
use Rattle.fans.specs.Fans.{gets_arc, side_weft, start_fan, end_fan, arc_size, fan_size}
use Rattle.fans.specs.Weft.{faces, then}
use Rattle.fans.specs.declared.Round.{Round}
use Rattle.fans.proofs.Sizes.{Sized, Even, faces_sized, then_sized, given_even, side_even, start_even, end_even, few}
use Rattle.bends.specs.Bend.{edge_faces, due_weft, arcs_weft, end_weft, bend_weft, bend_size, counted_of, CountFits}
use Rattle.bends.specs.declared.Bend.{Bend}
use Rattle.bends.specs.declared.Weave.{Weave}

-- the strip's own triangles of a step
pub edge_own : (s : Strip) (j : EndpointData) → length (edge_faces s (before_of (next_of s) j)) + length (between (before_of (next_of s) j) (after_of (next_of s) j)) ≡ length (step_triangles s j)
unfolding edge_faces step_triangles
edge_own s j = go s.begun
  where
    b : Section
    b = before_of (next_of s) j

    a : Section
    a = after_of (next_of s) j

    go : (t : Bool) → length (cond t (between s.last b) []) + length (between b a) ≡ length (between (cond t s.last b) b ++ between b a)
    go true = sym (length-append (between s.last b) (between b a))
    go false = let z : 0 + length (between b a) ≡ length (between b a) = omega arith in rw (between_same b) z

module _ (o : Stroke) (r : Round) (s : Strip) (due : Bool) (b : Bend) (i : ℕ) where
  pub bend_sized : Sized (bend_size r due b) (length (step_triangles s b.joint) + bend_size r due b) (bend_weft o r s due b i)
  unfolding bend_weft bend_size due_weft arcs_weft end_weft
  bend_sized =
      let k = r.detail in
      let before = before_of (next_of s) b.joint in
      let t = b.leg.edge.t in
      let cap = start_fan k (start_cap_of o b.leg) s.last.negative s.last.positive (negated_of b.leg.edge.t) in
      let own = between before (after_of (next_of s) b.joint) in
      let p = side_weft r b.joint Positive before.positive t in
      let q = side_weft r b.joint Negative before.negative t in
      let e = end_fan k b.joint before.negative before.positive t in
      let arcs = arc_size (gets_arc r.joins b.joint Positive) k + arc_size (gets_arc r.joins b.joint Negative) k in
      let last = fan_size (b.end && r.caps) k in
      let x5 : (n : ℕ) → Even last (end_weft r b before n) = λ n. given_even (b.end && r.caps) (2 ^ suc k - 1) n e (end_even k b.joint before.negative before.positive t n) in
      let x4 : (n : ℕ) → Even (arcs + last) (then (arcs_weft r b before) (end_weft r b before) n) = λ n.
      then_sized (arcs_weft r b before) (end_weft r b before) n (then_sized p q n (side_even r b.joint Positive before.positive t n) (λ m. side_even r b.joint Negative before.negative t m)) x5 in
      let x3 : (n : ℕ) → Sized (0 + (arcs + last)) (length own + (arcs + last)) (then (faces own) (then (arcs_weft r b before) (end_weft r b before)) n) = λ n.
      then_sized (faces own) (then (arcs_weft r b before) (end_weft r b before)) n (faces_sized own n) x4 in
      let x2 : (n : ℕ) → Sized (fan_size due k + (0 + (arcs + last))) (fan_size due k + (length own + (arcs + last))) (then (due_weft o r due s b.leg) (then (faces own) (then (arcs_weft r b before) (end_weft r b before))) n) = λ n.
      then_sized (due_weft o r due s b.leg) (then (faces own) (then (arcs_weft r b before) (end_weft r b before))) n (given_even due (2 ^ suc k - 1) n cap (start_even k (start_cap_of o b.leg) s.last.negative s.last.positive (negated_of b.leg.edge.t) n)) x3 in
      let z = then_sized (faces (edge_faces s before)) (then (due_weft o r due s b.leg) (then (faces own) (then (arcs_weft r b before) (end_weft r b before)))) i (faces_sized (edge_faces s before) i) x2 in
      record { vertices = omega (arith, z.vertices); triangles = omega (arith, z.triangles, edge_own s b.joint) }

pub counted_is : (o : Stroke) (r : Round) (w : Weave) (b : Bend) (next : Strip) → CountFits r w b next → counted_of r w b next ≡ behind w.place (bend_weft o r w.strip w.due b (next_vertex w.place))
unfolding step_of
counted_is o r w b next f =
    let z = bend_sized o r w.strip w.due b (next_vertex w.place) in
    let n = bend_size r w.due b in
    let m = length (step_triangles w.strip b.joint) in
    let e : w.place.triangles + (w.strip.place.triangles + m - w.strip.place.triangles) + n ≡ w.place.triangles + (m + n) = omega arith in
    rw (f.is, z.vertices, z.triangles, e)

-- no joint brings many
pub arc_few : (there : Bool) (k : ℕ) → k ≤ 6 → arc_size there k ≤ 63
arc_few true k h = omega (arith, few k h)
arc_few false k h = omega arith

pub fan_few : (there : Bool) (k : ℕ) → k ≤ 6 → fan_size there k ≤ 127
fan_few true k h = omega (arith, few k h)
fan_few false k h = omega arith

pub bend_few : (r : Round) (due : Bool) (b : Bend) → r.detail ≤ 6 → bend_size r due b ≤ 380
unfolding bend_size
bend_few r due b h =
    let k = r.detail in
    let x = fan_few due k h in
    let y = arc_few (gets_arc r.joins b.joint Positive) k h in
    let z = arc_few (gets_arc r.joins b.joint Negative) k h in
    let u = fan_few (b.end && r.caps) k h in
    omega arith

pub more_faces : (r : Round) (w : Weave) (b : Bend) (next : Strip) → CountFits r w b next → w.strip.place.triangles ≤ next.place.triangles
unfolding step_of
more_faces r w b next f = rw f.is (omega arith)
