-- What one joint of a round run brings, as items: each part, and one behind the other. Assumes nothing.
use Prim.Native.Nat.{ℕ, suc, ◌+◌, ◌-◌, ◌^◌}
use mathlib.Core.Path.{◌≡◌, refl, sym, ap, ◌∙◌}
use mathlib.Core.Bool.{Bool, true, false, cond}
use mathlib.Core.List.{List, [], ◌∷◌, ◌++◌, append-nil}
use native.Mathlib.Omega.{arith}
use lib.Ieee.{Float}
use lib.ListN.{length, length-append}
use Rattle.plane.specs.declared.vector.Point.{Point}
use Rattle.endpoint.specs.declared.EndpointData.{EndpointData}
use Rattle.endpoint.specs.declared.Side.{Side}
use Rattle.endpoint.specs.declared.SidePoints.{SidePoints}
use Rattle.endpoint.specs.declared.SidePoints.TheVariants.{Single, Pair}
use Rattle.endpoint.specs.declared.VertexId.{VertexId}
use Rattle.pieces.specs.Piece.{Piece}
use Rattle.pieces.proofs.Pieces.{joined_none}
use Rattle.vertices.specs.Base.{side_points_of}
use Rattle.triangles.specs.Tri.{Tri}
use Rattle.arc.specs.Arc.{arc_triangles}
use Rattle.arc.proofs.Writing.{arc_length}
use Rattle.fans.specs.Fans as fans
use Rattle.fans.specs.Fans.{first_normal, last_normal, hub_of, gets_arc, side_weft, start_fan, end_fan}
use Rattle.fans.specs.Weft.{nothing, faces, given, then}
use Rattle.fans.specs.declared.Round.{Round}
use Rattle.fans.proofs.Sizes.{start_even, end_even}
use Rattle.fans.proofs.Wefts.{then_assoc}
use Rattle.braid.specs.Weave.{Item, arc, added, woven}
use Rattle.braid.specs.Round.{ones, side_arc}
use Rattle.braid.proofs.Woven.{woven_append}
use Rattle.braid.proofs.Tallies.{added_append, added_ones}
use Rattle.plait.specs.Items.{side_levels, Spun}

pub spun_then : {ps qs : List Item} {f g : ℕ → Piece} → Spun ps f → Spun qs g → Spun (ps ++ qs) (then f g)
unfolding then
spun_then {ps} {qs} {f} {g} x y = record {
  vertices = λ i. rw length-append (omega (arith, x.vertices i, y.vertices (i + length (f i).vertices), added_append ps qs));
  triangles = λ i. rw (x.triangles i, y.triangles (i + length (f i).vertices), x.vertices i) (sym (woven_append i ps qs));
}

-- the same written in another grouping
spun_alike : {ps : List Item} {f g : ℕ → Piece} → ((i : ℕ) → f i ≡ g i) → Spun ps f → Spun ps g
spun_alike e x = record { vertices = λ i. rw (← e i) (x.vertices i); triangles = λ i. rw (← e i) (x.triangles i) }

pub spun_assoc : {ps : List Item} (f g h : ℕ → Piece) → Spun ps (then f (then g h)) → Spun ps (then (then f g) h)
spun_assoc f g h x = spun_alike (λ i. sym (then_assoc f g h i)) x

pub spun_last : {ps : List Item} (f : ℕ → Piece) → Spun ps (then f nothing) → Spun ps f
unfolding then
spun_last f x = spun_alike (λ i. joined_none (f i)) x

pub spun_none : Spun [] nothing
unfolding added woven
spun_none = record { vertices = λ i. refl; triangles = λ i. refl }

woven_ones : (i : ℕ) (ts : List Tri) → woven i (ones ts) ≡ ts
unfolding woven ones
woven_ones i [] = refl
woven_ones i (t ∷ ts) = ap (λ (l : List Tri). t ∷ l) (woven_ones i ts)

pub spun_faces : (ts : List Tri) → Spun (ones ts) (faces ts)
spun_faces ts = record { vertices = λ i. sym (added_ones ts); triangles = λ i. sym (woven_ones i ts) }

-- an arc, which may not be there: one of no levels is nothing
spun_arc : (k a b : ℕ) (f : ℕ → Piece) → ((i : ℕ) → length (f i).vertices ≡ 2 ^ k - 1) → ((i : ℕ) → (f i).triangles ≡ arc_triangles k i a b) → Spun (arc k a b ∷ []) f
unfolding added woven
spun_arc k a b f v t = record { vertices = λ i. omega (arith, v i); triangles = λ i. t i ∙ sym (append-nil (arc_triangles k i a b)) }

spun_given : (test : Bool) (k a b : ℕ) (f : ℕ → Piece) → Spun (arc k a b ∷ []) f → Spun (arc (cond test k 0) a b ∷ []) (given test f)
unfolding arc_triangles
spun_given true k a b f h = h
spun_given false k a b f h = spun_arc 0 a b nothing (λ i. refl) (λ i. refl)

-- "A round cap .. is cut first by the outward direction, then holds two arcs": an arc of a level more
module _ (test : Bool) (k : ℕ) (e : EndpointData) (n p : VertexId) (outward : Point) where
  pub spun_start : Spun (arc (cond test (suc k) 0) n.0 p.0 ∷ []) (given test (start_fan k e n p outward))
  unfolding start_fan arc_triangles
  spun_start = spun_given test (suc k) n.0 p.0 (start_fan k e n p outward) (spun_arc (suc k) n.0 p.0 (start_fan k e n p outward) (λ i. (start_even k e n p outward i).vertices) (λ i. refl))

  pub spun_end : Spun (arc (cond test (suc k) 0) p.0 n.0 ∷ []) (given test (end_fan k e n p outward))
  unfolding end_fan arc_triangles
  spun_end = spun_given test (suc k) p.0 n.0 (end_fan k e n p outward) (spun_arc (suc k) p.0 n.0 (end_fan k e n p outward) (λ i. (end_even k e n p outward i).vertices) (λ i. refl))

-- an arc on a side, which only a pair gets
pub single_none : (round : Bool) (e : EndpointData) (side : Side) (x y : Float) → side_points_of e side ≡ Single x y → gets_arc round e side ≡ false
unfolding gets_arc
single_none true e side x y h = rw h
single_none false e side x y h = refl

module _ (r : Round) (e : EndpointData) (side : Side) (first : VertexId) (ahead : Point) where
  pub spun_side : Spun (side_arc (side_levels r side e) first.0 (side_points_of e side)) (side_weft r e side first ahead)
  unfolding side_arc side_weft
  spun_side = go (side_points_of e side) refl
    where
      f : ℕ → Piece
      f = fans.side_arc r.detail e side first ahead

      test : Bool
      test = gets_arc r.joins e side

      go : (p : SidePoints) → side_points_of e side ≡ p → Spun (side_arc (side_levels r side e) first.0 p) (given test f)
      go (Single x y) h = rw (single_none r.joins e side x y h) spun_none
      go (Pair x0 y0 x1 y1) h =
          let ends = side_points_of e side in
          let long = arc_length r.detail (hub_of e side ahead) (first_normal e ends) (last_normal e ends) in
          spun_given test r.detail first.0 (first.0 + 1) f (spun_arc r.detail first.0 (first.0 + 1) f (λ i. omega (arith, long)) (λ i. refl))
