-- lyon's `compute_join_side_positions` as it stands in its source, stroke.rs, in its order and with its names, to be read beside it. What it calls is
-- document 01's: `normal_of` is `compute_normal`, `too_long` the limit of rule 5, `clipped_of` the clip of rule 6, u the normal over its length, `min_of` Rust's
-- `f32::min`. The contracts use `side_positions_of` of `Record`; that the source's two calls, one to a side, leave the same wherever a side's normal is not zero, where
-- document 02's W-208 decides, is `source_same` in proofs/Source.antt. Assumes nothing.
use Rattle.std.specs.Prelude.{◌≡◌, Bool, true, false, not, ◌&&◌, ◌||◌, Float}
use Rattle.std.proofs.Math.Option.{Option, none, some}
use Rattle.std.specs.Float.Ieee.{lt}
use Rattle.plane.specs.F32.{◌⊖◌, ◌⊗◌, f32, above, not_below}
use Rattle.plane.specs.Normal.{pick, normal_of}
use Rattle.plane.specs.Vector.{plus_of, minus_of, times_of, negated_of, dot_of, cross_of, square_length_of, normalize_of}
use Rattle.plane.specs.declared.vector.Point.{Point}
use Rattle.endpoint.specs.Endpoint.{sign_of, single_of, pair_of}
use Rattle.endpoint.specs.declared.EndpointData.{EndpointData}
use Rattle.endpoint.specs.declared.InnerJoin.{InnerJoin}
use Rattle.endpoint.specs.declared.InnerJoin.TheVariants as inner
use Rattle.endpoint.specs.declared.LineJoin.{LineJoin}
use Rattle.endpoint.specs.declared.LineJoin.TheVariants.{Miter, MiterClip, Bevel, Round}
use Rattle.endpoint.specs.declared.Side.{Side}
use Rattle.endpoint.specs.declared.Side.TheVariants.{Positive, Negative}
use Rattle.endpoint.specs.declared.SidePoints.{SidePoints}
use Rattle.join.specs.Clip.{clipped_of}
use Rattle.join.specs.Side.{min_of, too_long}
use Rattle.join.specs.declared.edge.Edge.{Edge}
use Rattle.join.specs.declared.edge.EdgeSide.{EdgeSide}

-- the source's `SidePoints` and `EndpointData`, without what the routine neither reads nor sets; an array of two is a function of the side
pub record SourcePoints : Type 0 where
  pub prev : Point
  pub next : Point
  pub single_vertex : Option Point

pub record SourceData : Type 0 where
  pub position : Point
  pub half_width : Float
  pub advancement : Float
  pub line_join : LineJoin
  pub side_points : Side → SourcePoints
  pub fold : Side → Bool
  pub inner_join : Option Side

abbrev pub source_points : Point → Point → Option Point → SourcePoints
source_points prev next single = record { prev = prev; next = next; single_vertex = single }

-- `array[side] = x`
abbrev pub put : {A : Type 0} → (Side → A) → Side → A → Side → A
put f Positive x Positive = x
put f Positive x Negative = f Negative
put f Negative x Positive = f Positive
put f Negative x Negative = x

-- the record `join` with what is set in it
abbrev pub set : SourceData → (Side → SourcePoints) → (Side → Bool) → Option Side → SourceData
set join points fold inner = record {
  position = join.position;
  half_width = join.half_width;
  advancement = join.advancement;
  line_join = join.line_join;
  side_points = points;
  fold = fold;
  inner_join = inner;
}

-- `join.line_join == LineJoin::Miter`, `== LineJoin::MiterClip`
abbrev pub is_miter : LineJoin → Bool
is_miter Miter = true
is_miter MiterClip = false
is_miter Bevel = false
is_miter Round = false

abbrev pub is_miter_clip : LineJoin → Bool
is_miter_clip Miter = false
is_miter_clip MiterClip = true
is_miter_clip Bevel = false
is_miter_clip Round = false

unfoldable pub compute_join_side_positions : SourceData → SourceData → SourceData → Float → Side → SourceData
compute_join_side_positions prev join next miter_limit side =
    let sign = sign_of side in
    let v0 = normalize_of (minus_of (join.side_points side).prev (prev.side_points side).next) in
    let v1 = normalize_of (minus_of (next.side_points side).prev (join.side_points side).next) in
    let inward = above (cross_of v0 v1 ⊗ sign) in
    let forward = above (dot_of v0 v1) in
    let normal = times_of (normal_of v0 v1) sign in
    let path_v0 = normalize_of (minus_of join.position prev.position) in
    let path_v1 = normalize_of (minus_of next.position join.position) in
    let normal_same_side = not_below (dot_of (plus_of v0 v1) (plus_of path_v0 path_v1)) in
    let extruded_normal = times_of normal join.half_width in
    let prev_length = join.advancement ⊖ prev.advancement in
    let next_length = next.advancement ⊖ join.advancement in
    let d_next = dot_of extruded_normal v1 ⊖ next_length in
    let d_prev = dot_of extruded_normal (negated_of v0) ⊖ prev_length in
    let back_vertex_overshoots = pick (inward && normal_same_side) (above (min_of d_next d_prev)) false in
    let angle_is_sharp = inward && not forward && normal_same_side in
    let fold = pick (angle_is_sharp && (back_vertex_overshoots || lt (square_length_of normal) (f32 0x3727c5ac))) (put join.fold side true) join.fold in
    let concave = inward && normal_same_side && not (fold side) in
    pick (concave && back_vertex_overshoots)
    (set join join.side_points fold (some side))
    (pick (concave || ((is_miter join.line_join || is_miter_clip join.line_join) && not (too_long normal miter_limit)))
    (let p = plus_of join.position (times_of normal join.half_width) in
    let points = source_points (join.side_points side).prev (join.side_points side).next (some p) in
    set join (put join.side_points side points) fold join.inner_join)
    (pick (is_miter_clip join.line_join)
    (let n0 = minus_of (join.side_points side).prev join.position in
    let n1 = minus_of (join.side_points side).next join.position in
    let normals = clipped_of n0 n1 (normalize_of normal) (miter_limit ⊗ join.half_width) in
    let points = source_points (plus_of join.position normals.prev) (plus_of join.position normals.next) (join.side_points side).single_vertex in
    set join (put join.side_points side points) fold join.inner_join)
    (set join join.side_points fold join.inner_join)))

-- an endpoint as the routine gets it: its points beside the edges that end and begin there, and nothing set
abbrev pub edge_side : Edge → Side → EdgeSide
edge_side e Positive = e.positive
edge_side e Negative = e.negative

abbrev pub unset : EndpointData → Edge → Edge → SourceData
unset e before after = record {
  position = e.position;
  half_width = e.half_width;
  advancement = e.advancement;
  line_join = e.line_join;
  side_points = λ side. source_points (edge_side before side).to (edge_side after side).from none;
  fold = λ side. false;
  inner_join = none;
}

-- the points that it leaves on a side, in this crate's form
abbrev pub points_in : SourcePoints → SidePoints
points_in s = read s.prev s.next s.single_vertex
  where
    read : Point → Point → Option Point → SidePoints
    read prev next none = pair_of prev next
    read prev next (some p) = single_of p

-- its one field names the last of two inner joins
abbrev pub last_inner : InnerJoin → Option Side
last_inner inner.Neither = none
last_inner inner.Positive = some Positive
last_inner inner.Negative = some Negative
last_inner inner.Both = some Negative

-- a join's record as it is left, and the same in this crate's form, but for the points of a side whose normal is zero
pub record Same (zero : Side → Bool) (join : SourceData) (e : EndpointData) : Type 0 where
  pub positive : zero Positive ≡ false → points_in (join.side_points Positive) ≡ e.positive
  pub negative : zero Negative ≡ false → points_in (join.side_points Negative) ≡ e.negative
  pub fold_positive : join.fold Positive ≡ e.fold_positive
  pub fold_negative : join.fold Negative ≡ e.fold_negative
  pub inner_join : join.inner_join ≡ last_inner e.inner_join
