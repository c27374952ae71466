-- The vertices of a joint. Where its join is not clipped, each point of its sides lies within 226 half widths of its position: a tip, by the bound of the join's normal; a point beside an
-- edge; a cap's point, by two offsets. So every normal is at most 227, and every place, position + normal*h, at most 32,768 + 227 * 8,192. Assumes nothing.
use mathlib.Core.Path.{◌≡◌, refl}
use Prim.Native.Nat.{ℕ}
use mathlib.Core.Bool.{Bool, true, false, not, ◌&&◌, true≢false}
use lib.Dec.{lit<, lit≤}
use lib.Ieee.{Float, of_bits}
use Rattle.plane.specs.F32.{f32}
use Rattle.plane.specs.Normal.{pick}
use Rattle.plane.specs.Vector.{point, plus_of, minus_of, times_of, divided_of, negated_of}
use Rattle.plane.specs.declared.vector.Point.{Point}
use Rattle.endpoint.specs.Endpoint.{sign_of, single_of, pair_of}
use Rattle.endpoint.specs.declared.Endpoint.{Endpoint}
use Rattle.endpoint.specs.declared.EndpointData.{EndpointData}
use Rattle.endpoint.specs.declared.LineJoin.{LineJoin}
use Rattle.endpoint.specs.declared.Side.{Side}
use Rattle.endpoint.specs.declared.Side.TheVariants.{Positive, Negative}
use Rattle.endpoint.specs.declared.SidePoints.{SidePoints}
use Rattle.endpoint.specs.declared.SidePoints.TheVariants.{Single, Pair}
use Rattle.join.specs.Record.{turn_of, side_positions_of}
use Rattle.join.specs.Side.{is_clip, corner_of, inward_of, overshoots_of, folds_of, tip_of, kind_of, decided_of, tip_point_of, points_of, join_side_of}
use Rattle.join.specs.declared.edge.EdgeSide.{EdgeSide}
use Rattle.join.specs.declared.side.Corner.{Corner}
use Rattle.join.specs.declared.side.Kind.TheVariants.{Inner, Clipped, Beside}
use Rattle.join.specs.declared.side.Kind.TheVariants.{Single as Tip}
use Rattle.join.specs.declared.side.Turn.{Turn}
use Rattle.joints.specs.Joint.{data_of, unworked_of, joint_of, cap_of, start_cap_of, end_cap_of}
use Rattle.joints.specs.declared.leg.Leg.{Leg}
use Rattle.options.specs.declared.Stroke.{Stroke}
use Rattle.pieces.specs.Piece.{Vertex}
use Rattle.lists.specs.All.{All}
use Rattle.lists.proofs.All.{all_append}
use Rattle.strip.specs.Joint.{joint_vertices_of}
use Rattle.vertices.specs.Base.{base_vertex_of, side_vertices_of, base_vertices_of}
use Rattle.vertices.specs.Vertex.{vertex_of}
use Rattle.rounding.proofs.Scales.{one}
use Rattle.rounding.proofs.Results.{Bounded, bounded_neg}
use Rattle.units.proofs.Vectors.{UnitVector, reversed}
use Rattle.units.proofs.Normals.{bounded}
use Rattle.stays.specs.Stays.{Inside}
use Rattle.reach.proofs.Widths.{Width, Part, itself, Wide}
use Rattle.reach.proofs.Beside.{bounded_times, offset, further, stepped, normal, place}
use Rattle.reach.proofs.Edges.{Short, unit_short, x_in, y_in, Lies, moved_off, Sided, Edged}

-- ---- a vertex in reach
pub record Held (v : Vertex) : Type 0 where
  pub x : Bounded v.x 1892352
  pub y : Bounded v.y 1892352
  pub normal_x : Bounded v.normal_x 227
  pub normal_y : Bounded v.normal_y 227

-- ---- the join's normal on a side
pub unity : Bounded (f32 0x3f800000) 1
unfolding of_bits one
unity = record { s = false; size = one; value = (refl, refl); within = lit≤ tt }

signed : (side : Side) → Bounded (sign_of side) 1
signed Positive = unity
signed Negative = bounded_neg unity

record Pointed (n : Point) : Type 0 where
  pub x : Bounded n.x 223
  pub y : Bounded n.y 223

corner_normal : (before after : EdgeSide) (side : Side) → UnitVector before.v → UnitVector after.v → Pointed (corner_of before after side).normal
unfolding corner_of times_of
corner_normal before after side U T =
    let R = bounded before.v after.v U T in
    let c = R.at in
    record {
      x = bounded_times 223 1 (lit< tt) (record { s = c.s; size = c.x; value = c.x_is; within = R.x_in }) (signed side);
      y = bounded_times 223 1 (lit< tt) (record { s = c.t; size = c.y; value = c.y_is; within = R.y_in }) (signed side);
    }

module _ {h : Float} (W : Width h) where
  module _ (p : Endpoint) (P : Inside p) where
    -- ---- the points of a side
    abbrev pub SideLies : SidePoints → Type 0
    SideLies (Single x y) = Lies W p P (point x y) 226
    SideLies (Pair x0 y0 x1 y1) = Lies W p P (point x0 y0) 226 × Lies W p P (point x1 y1) 226

    farther : (z : Point) → Lies W p P z 5 → Lies W p P z 226
    farther z L = record {
      x = further W p.position.x (x_in P) 5 226 (lit≤ tt) L.x;
      y = further W p.position.y (y_in P) 5 226 (lit≤ tt) L.y;
    }

    tip : (n : Point) → Pointed n → SideLies (single_of (plus_of p.position (times_of n h)))
    unfolding single_of plus_of times_of
    tip n N = moved_off W p P 224 226 (lit≤ tt) (lit≤ tt) (times_of n h) (offset W 223 (lit≤ tt) N.x (itself W)) (offset W 223 (lit≤ tt) N.y (itself W))

    pair : (prev next : Point) → Lies W p P prev 5 → Lies W p P next 5 → SideLies (pair_of prev next)
    unfolding pair_of
    pair prev next A B = (farther prev A, farther next B)

    -- a cap's point: "the two side points, each plus q*clip"
    capped : (z q : Point) (clip : Float) → Lies W p P z 5 → Short q → Part W clip → SideLies (single_of (plus_of z (times_of q clip)))
    unfolding single_of plus_of times_of
    capped z q clip L S C = record {
      x = stepped W p.position.x (x_in P) 5 3 226 (lit≤ tt) (lit≤ tt) L.x (offset W 2 (lit≤ tt) S.x C);
      y = stepped W p.position.y (y_in P) 5 3 226 (lit≤ tt) (lit≤ tt) L.y (offset W 2 (lit≤ tt) S.y C);
    }

    -- a join's, by its kind
    chosen : (concave overshoots tipped clips : Bool) (prev next : Point) (c : Corner) (e : Turn) → clips ≡ false → SideLies (tip_point_of c.normal e) → SideLies (pair_of prev next)
        → SideLies (points_of (pick concave (pick overshoots Inner Tip) (pick tipped Tip (pick clips Clipped Beside))) prev next c e)
    chosen true true tipped clips prev next c e J T Q = Q
    chosen true false tipped clips prev next c e J T Q = T
    chosen false overshoots true clips prev next c e J T Q = T
    chosen false overshoots false true prev next c e J T Q = absurd (true≢false J)
    chosen false overshoots false false prev next c e J T Q = Q

    module _ (a b : Endpoint) (A : Inside a) (B : Inside b) (limit k l : Float) (along : Point) (join : LineJoin) where
      abbrev turn : Turn
      turn = record { position = p.position; half_width = h; limit = limit; before = k; after = l; along = along; line_join = join }

      side_lies : is_clip join ≡ false → (before after : EdgeSide) (side : Side) → Sided W a p A P before → Sided W p b P B after
          → SideLies (join_side_of (corner_of before after side) before.to after.from turn).points
      unfolding join_side_of decided_of kind_of tip_point_of
      side_lies J before after side E F =
          let c = corner_of before after side in
          chosen (inward_of c turn && not (folds_of (inward_of c turn) (overshoots_of (inward_of c turn) c turn) c)) (overshoots_of (inward_of c turn) c turn) (tip_of c.normal turn) (is_clip join)
          before.to after.from c turn J (tip c.normal (corner_normal before after side E.v F.v)) (pair before.to after.from E.to F.from)

    -- ---- rule 8
    pub vertex_held : (n : Point) (a : Float) (source : ℕ) → Bounded n.x 227 → Bounded n.y 227 → Held (vertex_of (plus_of p.position (times_of n h)) n a source)
    unfolding vertex_of plus_of times_of
    vertex_held n a source X Y = record {
      x = place W p.position.x (x_in P) 227 (lit< tt) X;
      y = place W p.position.y (y_in P) 227 (lit< tt) Y;
      normal_x = X;
      normal_y = Y;
    }

    module _ (j : EndpointData) (at : j.position ≡ p.position) (wide : j.half_width ≡ h) where
      base_held : (side : Side) (x y : Float) → Lies W p P (point x y) 226 → Held (base_vertex_of j side x y)
      unfolding base_vertex_of minus_of divided_of
      base_held side x y L =
          rw (at, wide)
          (vertex_held (divided_of (minus_of (point x y) p.position) h) j.advancement _
          (normal W p.position.x (x_in P) 226 (lit≤ tt) L.x) (normal W p.position.y (y_in P) 226 (lit≤ tt) L.y))

      side_held : (side : Side) (s : SidePoints) → SideLies s → All Held (side_vertices_of j side s)
      unfolding side_vertices_of
      side_held side (Single x y) L = (base_held side x y L, tt)
      side_held side (Pair x0 y0 x1 y1) L = (base_held side x0 y0 L.0, (base_held side x1 y1 L.1, tt))

-- ---- the joints of a stroke
module _ (o : Stroke) (S : Wide o) where
  abbrev h : Float
  h = o.half_width

  -- a joint about a point inside the limits, its sides' points beside it
  pub record Sited (j : EndpointData) : Type 0 where
    pub centre : Endpoint
    pub inside : Inside centre
    pub at : j.position ≡ centre.position
    pub wide : j.half_width ≡ h
    pub positive : SideLies S.half centre inside j.positive
    pub negative : SideLies S.half centre inside j.negative

  pub joint_held : (j : EndpointData) → Sited j → All Held (joint_vertices_of j)
  unfolding joint_vertices_of
  joint_held j J =
      all_append Held (base_vertices_of j Positive) (base_vertices_of j Negative)
      (side_held S.half J.centre J.inside j J.at J.wide Positive j.positive J.positive)
      (side_held S.half J.centre J.inside j J.at J.wide Negative j.negative J.negative)

  module _ (leg : Leg) (A : Inside leg.from) (B : Inside leg.to) (E : Edged S.half leg.from leg.to A B leg.edge) where
    pub join_sited : (next : Leg) (q : Endpoint) (Q : Inside q) → Edged S.half leg.to q B Q next.edge → is_clip o.line_join ≡ false → Sited (joint_of o leg next)
    unfolding joint_of side_positions_of turn_of unworked_of data_of
    join_sited next q Q F J = record {
      centre = leg.to;
      inside = B;
      at = refl;
      wide = refl;
      positive = side_lies S.half leg.to B leg.from q A Q _ _ _ _ o.line_join J leg.edge.positive next.edge.positive Positive E.positive F.positive;
      negative = side_lies S.half leg.to B leg.from q A Q _ _ _ _ o.line_join J leg.edge.negative next.edge.negative Negative E.negative F.negative;
    }

    pub start_sited : Sited (start_cap_of o leg)
    unfolding start_cap_of cap_of data_of
    start_sited =
        let q = unit_short (reversed leg.edge.t E.t) in
        record {
          centre = leg.from;
          inside = A;
          at = refl;
          wide = refl;
          positive = capped S.half leg.from A leg.edge.positive.from (negated_of leg.edge.t) o.clip E.positive.from q S.clip;
          negative = capped S.half leg.from A leg.edge.negative.from (negated_of leg.edge.t) o.clip E.negative.from q S.clip;
        }

    pub end_sited : Sited (end_cap_of o leg)
    unfolding end_cap_of cap_of data_of
    end_sited =
        let q = unit_short E.t in
        record {
          centre = leg.to;
          inside = B;
          at = refl;
          wide = refl;
          positive = capped S.half leg.to B leg.edge.positive.to leg.edge.t o.clip E.positive.to q S.clip;
          negative = capped S.half leg.to B leg.edge.negative.to leg.edge.t o.clip E.negative.to q S.clip;
        }
