-- Every vertex of a round empty cap is a unit vector away from its centre, times h: the corners' normals are normalized, and so is each of an arc's. From that
-- arc's `vertex` is that it "has length h within one part in a million" before its centre is added. Assumes nothing.
use Prim.Native.Nat.{ℕ, ◌+◌, ◌*◌, ◌≤◌}
use mathlib.Core.Path.{◌≡◌, refl}
use mathlib.Core.Bool.{Bool, true, false}
use mathlib.Core.List.{List, [], ◌∷◌, ◌++◌, map}
use native.Mathlib.Omega.{arith}
use lib.ListN.{length}
use lib.Ieee.{Float, neg, add, mul, lt, of_bits}
use lib.Ieee.Exact.{HasValue}
use Rattle.plane.specs.F32.{f32}
use Rattle.plane.specs.Normal.{epsilon}
use Rattle.plane.specs.Vector.{point, plus_of, times_of, square_length_of, normalize_of}
use Rattle.plane.specs.declared.vector.Point.{Point}
use Rattle.endpoint.specs.declared.Endpoint.{Endpoint}
use Rattle.endpoint.specs.declared.Side.{Side}
use Rattle.endpoint.specs.declared.Side.TheVariants.{Positive, Negative}
use Rattle.endpoint.specs.declared.VertexId.{VertexId}
use Rattle.pieces.specs.Piece.{Vertex}
use Rattle.vertices.specs.Cap.{cap_vertex_of}
use Rattle.vertices.specs.Vertex.{vertex_of}
use Rattle.rounding.proofs.Scales.{one}
use Rattle.rounding.proofs.Values.{negated_value}
use Rattle.units.proofs.Lengths.{Unity}
use Rattle.units.proofs.Vectors.{UnitVector, unit_unless}
use Rattle.arc.specs.Arc.{arc_vertex_of, arc_vertices, arc_normals}
use Rattle.arc.specs.declared.End.{End}
use Rattle.arc.proofs.Lengths.{AllUnit, arc_unit, unit_direction}
use Rattle.lists.specs.All.{All}
use Rattle.lists.proofs.All.{all_append}
use Rattle.fans.specs.Weft.{then}
use Rattle.round_cap.specs.declared.Corners.{Corners}
use Rattle.round_cap.specs.Cap.{corner_of, corners_from, corner_vertex_of, pair_of, corner_vertices, rim_of, half_weft, rim_weft, round_cap_piece}

-- a vertex about e: a unit vector, its normal, times h
pub record Rim (e : Endpoint) (h : Float) (v : Vertex) : Type 0 where
  pub normal : Point
  pub source : ℕ
  pub unit : UnitVector normal
  pub is : v ≡ vertex_of (plus_of e.position (times_of normal h)) normal (f32 0) source

-- ---- the square's directions
abbrev signed : Bool → Float
signed false = f32 0x3f800000
signed true = neg (f32 0x3f800000)

one_is : HasValue (f32 0x3f800000) false one one
unfolding of_bits one
one_is = (refl, refl)

signed_is : (s : Bool) → HasValue (signed s) s one one
signed_is false = one_is
signed_is true = negated_value (f32 0x3f800000) false one one one_is

not_short : (s t : Bool) → lt (square_length_of (point (signed s) (signed t))) epsilon ≡ false
unfolding square_length_of lt add mul of_bits neg
not_short false false = refl
not_short false true = refl
not_short true false = refl
not_short true true = refl

few : (u : ℕ) → u ≤ 1073741824 * u
few u = omega arith

corner_unit : (s t : Bool) → UnitVector (normalize_of (point (signed s) (signed t)))
corner_unit s t =
    unit_unless (point (signed s) (signed t)) (record { s = s; x = one; x_is = signed_is s; t = t; y = one; y_is = signed_is t })
    (record { x_in = few one; y_in = few one }) (not_short s t)

pub record Units (q : Corners) : Type 0 where
  pub a : UnitVector q.a.normal
  pub b : UnitVector q.b.normal
  pub c : UnitVector q.c.normal
  pub d : UnitVector q.d.normal

pub corner_units : (base : VertexId) → Units (corners_from base)
unfolding corners_from corner_of
corner_units base = record { a = corner_unit false false; b = corner_unit false true; c = corner_unit true true; d = corner_unit true false }

-- what is ahead, (1, 0)
zero_is : HasValue (f32 0) false 0 one
unfolding of_bits one
zero_is = (refl, refl)

ahead_unit : UnitVector (point (f32 0x3f800000) (f32 0))
ahead_unit = record { at = record { s = false; x = one; x_is = one_is; t = false; y = 0; y_is = zero_is }; unity = along one }
  where
    along : (u : ℕ) → Unity u 0 u
    along u = record { high = omega arith; low = omega arith }

module _ (e : Endpoint) (h : Float) where
  corner_rim : (side : Side) (n : Point) → UnitVector n → Rim e h (corner_vertex_of e h side n)
  unfolding cap_vertex_of
  corner_rim side n u = record { normal = n; source = _; unit = u; is = refl }

  -- an arc's vertices
  all_rim : (side : Side) (ns : List Point) → AllUnit ns → All (Rim e h) (map (arc_vertex_of (rim_of e h side)) ns)
  unfolding arc_vertex_of rim_of
  all_rim side [] u = tt
  all_rim side (n ∷ ns) u = (record { normal = n; source = _; unit = u.0; is = refl }, all_rim side ns u.1)

  arc_rim : (k : ℕ) (side : Side) (a b : Point) → UnitVector a → UnitVector b → All (Rim e h) (arc_vertices k (rim_of e h side) a b)
  unfolding arc_vertices rim_of
  arc_rim k side a b u w = all_rim side (arc_normals k (rim_of e h side).ahead a b) (arc_unit k (rim_of e h side).ahead a b ahead_unit (unit_direction a u) (unit_direction b w))

  half_rim : (k : ℕ) (first second : Side) (a b c : End) (i : ℕ) → UnitVector a.normal → UnitVector b.normal → UnitVector c.normal
      → All (Rim e h) (half_weft k (rim_of e h first) (rim_of e h second) a b c i).vertices
  unfolding then half_weft
  half_rim k first second a b c i u v w =
      all_append (Rim e h) (arc_vertices k (rim_of e h first) a.normal b.normal) (arc_vertices k (rim_of e h second) b.normal c.normal)
      (arc_rim k first a.normal b.normal u v) (arc_rim k second b.normal c.normal v w)

  pub cap_rim : (k : ℕ) (base : VertexId) → All (Rim e h) (round_cap_piece k base e h).vertices
  unfolding then rim_weft corner_vertices pair_of
  cap_rim k base =
      let q = corners_from base in
      let u = corner_units base in
      let n = rim_of e h Negative in
      let p = rim_of e h Positive in
      let i = base.0 + 4 in
      let near = (half_weft k n p q.a q.b q.c i).vertices in
      let j = i + length near in
      all_append (Rim e h) (corner_vertices e h q) (near ++ (half_weft k p n q.c q.d q.a j).vertices)
      (corner_rim Negative q.a.normal u.a, (corner_rim Positive q.b.normal u.b, (corner_rim Positive q.c.normal u.c, (corner_rim Negative q.d.normal u.d, tt))))
      (all_append (Rim e h) near (half_weft k p n q.c q.d q.a j).vertices
      (half_rim k Negative Positive q.a q.b q.c i u.a u.b u.c) (half_rim k Positive Negative q.c q.d q.a j u.c u.d u.a))
