-- What an endpoint's parts mean. Assumes nothing.
use Rattle.std.specs.Prelude.{ℕ, ◌+◌, ◌*◌, false, Float}
use Rattle.std.specs.Float.Ieee.{neg}
use Rattle.plane.specs.F32.{f32}
use Rattle.plane.specs.Vector.{point}
use Rattle.plane.specs.declared.vector.Point.{Point}
use Rattle.endpoint.specs.declared.EndpointData.{EndpointData}
use Rattle.endpoint.specs.declared.EndpointId.{EndpointId}
use Rattle.endpoint.specs.declared.InnerJoin.TheVariants.{Neither}
use Rattle.endpoint.specs.declared.LineJoin.TheVariants.{Miter}
use Rattle.endpoint.specs.declared.Side.{Side}
use Rattle.endpoint.specs.declared.Side.TheVariants.{Positive, Negative}
use Rattle.endpoint.specs.declared.SidePoints.{SidePoints}
use Rattle.endpoint.specs.declared.SidePoints.TheVariants.{Single, Pair}
use Rattle.endpoint.specs.declared.VertexId.{VertexId}

-- a number is a u32, and so is what a vertex's record says of an endpoint's: a number is below
abbrev pub id_limit : ℕ
id_limit = 2147483648

-- "An endpoint number and a vertex number are counted apart": n behind another
abbrev pub endpoint_after : EndpointId → ℕ → EndpointId
endpoint_after first n = record { 0 = first.0 + n }

abbrev pub vertex_after : VertexId → ℕ → VertexId
vertex_after base n = record { 0 = base.0 + n }

-- "an endpoint of zeros, Miter, both sides Single, no fold"
abbrev pub blank_of : EndpointData
blank_of = record {
  position = point (f32 0) (f32 0);
  half_width = f32 0;
  advancement = f32 0;
  line_join = Miter;
  id = record { 0 = 0 };
  positive = Single (f32 0) (f32 0);
  negative = Single (f32 0) (f32 0);
  fold_positive = false;
  fold_negative = false;
  inner_join = Neither;
}

-- "Side sign is 1 or -1."
abbrev pub sign_of : Side → Float
sign_of Positive = f32 0x3f800000
sign_of Negative = neg (f32 0x3f800000)

-- W-206, what a vertex's record says: "twice the endpoint's number, plus one on the negative side"
abbrev pub side_bit : Side → ℕ
side_bit Positive = 0
side_bit Negative = 1

abbrev pub source_of : EndpointId → Side → ℕ
source_of e side = 2 * e.0 + side_bit side

unfoldable pub single_of : Point → SidePoints
single_of p = Single p.x p.y

unfoldable pub pair_of : Point → Point → SidePoints
pair_of p q = Pair p.x p.y q.x q.y

-- "Each side is Single with its point or Pair with two points": how many vertices it has
abbrev pub side_count_of : SidePoints → ℕ
side_count_of (Single x y) = 1
side_count_of (Pair x0 y0 x1 y1) = 2
