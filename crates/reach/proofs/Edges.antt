-- An edge between two points that are not near: its direction and those of its two sides are unit vectors, the points beside its ends lie within five half widths of them, and it is at
-- most 131,072 long. One law has both sides; the offset of the second is the opposite of the first's. Assumes nothing.
use mathlib.Core.Path.{◌≡◌}
use mathlib.Core.Logic.{◌⊎◌, inl, inr}
use Prim.Native.Nat.{ℕ, ◌+◌, ◌*◌, ◌≤◌, ◌<◌}
use native.Mathlib.Nat.{le_trans, lt_of_not-le, mul-le-mul, mul-le-mul_right}
use native.Mathlib.Decide.{dec_le}
use native.Mathlib.Omega.{arith}
use mathlib.Core.Bool.{false}
use lib.Dec.{lit≤}
use lib.Ieee.{Float, sub}
use lib.Ieee.Exact.{HasValue}
use Rattle.plane.specs.Vector as vector
use Rattle.plane.specs.Vector.{plus_of, minus_of, normalize_of}
use Rattle.plane.specs.declared.vector.Point.{Point}
use Rattle.endpoint.specs.declared.Endpoint.{Endpoint}
use Rattle.join.specs.Edge.{edge_of, edge_side_of}
use Rattle.join.specs.declared.edge.Edge.{Edge}
use Rattle.join.specs.declared.edge.EdgeSide.{EdgeSide}
use Rattle.kept.specs.Kept.{near}
use Rattle.rounding.proofs.Scales.{one, grain, speck, grains_square}
use Rattle.rounding.proofs.Results.{Bounded, made_bounded, Within}
use Rattle.units.proofs.Lengths.{Long}
use Rattle.units.proofs.Vectors.{UnitVector, Sized, measured, normalized, unit, turned, short_x, short_y}
use Rattle.stays.specs.Stays.{Inside}
use Rattle.stays.proofs.Cutting.{coordinate}
use Rattle.far.proofs.Ranges.{Limit}
use Rattle.far.proofs.Apart.{Apart, apart_distance}
use Rattle.far.proofs.Moved.{moved}
use Rattle.far.proofs.Edge.{gap_x, gap_y, near_apart}
use Rattle.reach.proofs.Widths.{Width, itself}
use Rattle.reach.proofs.Beside.{Offset, offset_neg, offset_bounded, offset, Beside, at_itself, stepped, looser}

-- ---- vectors of two grains in a component or more
speck_large : 4194304 ≤ speck
unfolding speck
speck_large = lit≤ tt

grains_some : (g : ℕ) → 2 * grain ≤ g → 16777216 * one ≤ g * g
grains_some g l = at (grain * grain) (speck * one) (g * g) (mul-le-mul l l) grains_square (mul-le-mul_right one speck_large)
  where
    at : (a b q : ℕ) → 2 * grain * (2 * grain) ≤ q → grain * grain ≡ b → 4194304 * one ≤ b → 16777216 * one ≤ q
    at a b q h e k = omega arith

module _ (v : Point) (x : Bounded v.x 131072) (y : Bounded v.y 131072) (far : (2 * grain ≤ x.size) ⊎ (2 * grain ≤ y.size)) where
  sized : Sized v
  sized = record {
    at = record { s = x.s; x = x.size; x_is = x.value; t = y.s; y = y.size; y_is = y.value };
    within = record { x_in = le_trans x.within (mul-le-mul_right one (lit≤ tt)); y_in = le_trans y.within (mul-le-mul_right one (lit≤ tt)) };
    some = elim far [ inl i ↦ left (x.size * x.size) (y.size * y.size) (grains_some x.size i) | inr i ↦ right (x.size * x.size) (y.size * y.size) (grains_some y.size i) ];
  }
    where
      left : (a b : ℕ) → 16777216 * one ≤ a → 16777216 * one ≤ a + b
      left a b h = omega arith

      right : (a b : ℕ) → 16777216 * one ≤ b → 16777216 * one ≤ a + b
      right a b h = omega arith

  direction : UnitVector (normalize_of v)
  direction = unit v sized.at (normalized v sized)

-- at most 65,536 in a component, so at most 131,072 long
length_le : (x y r u : ℕ) → x ≤ 65536 * u → y ≤ 65536 * u → Long (x * x + y * y) (r * r) → r ≤ 131072 * u
length_le x y r u h k L = go (dec_le r (131072 * u))
  where
    clash : 131072 * u < r → 16777216 * (r * r) ≤ 16777224 * (x * x + y * y) → ⊥
    clash l m = omega (arith, mul-le-mul h h, mul-le-mul k k, mul-le-mul l l)

    go : Dec (r ≤ 131072 * u) → r ≤ 131072 * u
    go (yes l) = l
    go (no f) = absurd (clash (lt_of_not-le f) L.high)

-- a component of a unit vector
pub record Short (v : Point) : Type 0 where
  pub x : Bounded v.x 2
  pub y : Bounded v.y 2

pub unit_short : {v : Point} → UnitVector v → Short v
unit_short {v} U =
    let c = U.at in
    record {
      x = record { s = c.s; size = c.x; value = c.x_is; within = short_x c.x c.y one U.unity };
      y = record { s = c.t; size = c.y; value = c.y_is; within = short_y c.x c.y one U.unity };
    }

-- ---- an endpoint's coordinates
abbrev pub x_in : {p : Endpoint} (P : Inside p) → Within 32768 p.position.x
x_in {p} P = coordinate p.position.x P.x

abbrev pub y_in : {p : Endpoint} (P : Inside p) → Within 32768 p.position.y
y_in {p} P = coordinate p.position.y P.y

-- ---- a point beside an endpoint, at most k half widths off in a component
module _ {h : Float} (W : Width h) where
  pub record Lies (p : Endpoint) (P : Inside p) (z : Point) (k : ℕ) : Type 0 where
    pub x : Beside W p.position.x (x_in P) z.x k
    pub y : Beside W p.position.y (y_in P) z.y k

  -- the endpoint itself, with an offset
  pub moved_off : (p : Endpoint) (P : Inside p) (k m : ℕ) → k + 2 ≤ m → m ≤ 8388608 → (o : Point) → Offset W o.x k → Offset W o.y k → Lies p P (plus_of p.position o) m
  unfolding plus_of
  moved_off p P k m M K o X Y = record {
    x = stepped W p.position.x (x_in P) 0 k m (omega arith) K (at_itself W p.position.x (x_in P)) X;
    y = stepped W p.position.y (y_in P) 0 k m (omega arith) K (at_itself W p.position.y (y_in P)) Y;
  }

  -- ---- one side of an edge from a to b
  pub record Sided (a b : Endpoint) (A : Inside a) (B : Inside b) (side : EdgeSide) : Type 0 where
    pub v : UnitVector side.v
    pub from : Lies a A side.from 5
    pub to : Lies b B side.to 5

  pub record Edged (a b : Endpoint) (A : Inside a) (B : Inside b) (e : Edge) : Type 0 where
    pub t : UnitVector e.t
    pub positive : Sided a b A B e.positive
    pub negative : Sided a b A B e.negative
    pub size : ℕ
    pub length : HasValue e.length false size one
    pub short : size ≤ 131072 * one

  module _ (a b : Endpoint) (A : Inside a) (B : Inside b) (far : Apart (gap_x A B) ⊎ Apart (gap_y A B)) where
    -- the offset o added to both ends
    beside : (o : Point) → Offset W o.x 3 → Offset W o.y 3 → Sided a b A B (edge_side_of (plus_of a.position o) (plus_of b.position o))
    unfolding edge_side_of plus_of minus_of
    beside o X Y =
        let x = moved (offset_bounded W 3 X) (gap_x A B) in
        let y = moved (offset_bounded W 3 Y) (gap_y A B) in
        record {
          v = direction _ x.difference y.difference (elim far [ inl i ↦ inl (x.far i) | inr i ↦ inr (y.far i) ]);
          from = moved_off a A 3 5 (lit≤ tt) (lit≤ tt) o X Y;
          to = moved_off b B 3 5 (lit≤ tt) (lit≤ tt) o X Y;
        }

  pub edged : (limit : Float) → Limit limit → (a b : Endpoint) (A : Inside a) (B : Inside b) → near limit a b ≡ false → Edged a b A B (edge_of a.position b.position h)
  unfolding sized edge_of vector.plus_of vector.minus_of vector.times_of vector.turned_of vector.normalize_of sub
  edged limit l a b A B e =
      let far = near_apart A B limit l e in
      let d = minus_of b.position a.position in
      let x = looser 65536 131072 (lit≤ tt) (made_bounded (gap_x A B).difference) in
      let y = looser 65536 131072 (lit≤ tt) (made_bounded (gap_y A B).difference) in
      let apart : (2 * grain ≤ x.size) ⊎ (2 * grain ≤ y.size) = elim far [ inl i ↦ inl (two (apart_distance (gap_x A B) i)) | inr i ↦ inr (two (apart_distance (gap_y A B) i)) ] in
      let T = direction d x y apart in
      let M = unit_short (turned _ T) in
      let X = offset W 2 (lit≤ tt) M.x (itself W) in
      let Y = offset W 2 (lit≤ tt) M.y (itself W) in
      let L = measured d (sized d x y apart) in
      record {
        t = T;
        positive = beside a b A B far _ X Y;
        negative = beside a b A B far _ (offset_neg W X) (offset_neg W Y);
        size = L.r;
        length = L.r_is;
        short = length_le x.size y.size L.r one (made_bounded (gap_x A B).difference).within (made_bounded (gap_y A B).difference).within L.near;
      }
    where
      two : {m : ℕ} → 10 * grain ≤ m → 2 * grain ≤ m
      two h = omega arith
