-- Rule 5 on one side: "The limit is exceeded when the normal's squared length is above limit*limit. Each side is Single with its point or
-- Pair with two points; inner joins and folds without a single point are pairs." And document 02's W-208: "a zero normal is now beyond every limit". The branches are
-- those of `compute_join_side_positions`; `Source` has that routine in its own order and words. Assumes nothing.
use Rattle.std.specs.Prelude.{ℕ, Bool, true, false, not, ◌&&◌, ◌||◌, Float}
use Rattle.std.specs.Float.Ieee.{lt, ne}
use Rattle.plane.specs.F32.{◌⊖◌, ◌⊗◌, f32, above, not_below}
use Rattle.plane.specs.Normal.{pick, normal_of}
use Rattle.plane.specs.Vector.{plus_of, minus_of, times_of, negated_of, dot_of, cross_of, square_length_of}
use Rattle.plane.specs.declared.vector.Point.{Point}
use Rattle.endpoint.specs.Endpoint.{sign_of, single_of, pair_of}
use Rattle.endpoint.specs.declared.LineJoin.{LineJoin}
use Rattle.endpoint.specs.declared.LineJoin.TheVariants.{Miter, MiterClip, Bevel, Round}
use Rattle.endpoint.specs.declared.Side.{Side}
use Rattle.endpoint.specs.declared.SidePoints.{SidePoints}
use Rattle.join.specs.Clip.{zero_of, cut_of, clipped_of}
use Rattle.join.specs.declared.edge.EdgeSide.{EdgeSide}
use Rattle.join.specs.declared.side.Corner.{Corner}
use Rattle.join.specs.declared.side.Decided.{Decided}
use Rattle.join.specs.declared.side.JoinSide.{JoinSide}
use Rattle.join.specs.declared.side.Kind.{Kind}
use Rattle.join.specs.declared.side.Kind.TheVariants.{Inner, Single, Clipped, Beside}
use Rattle.join.specs.declared.side.Turn.{Turn}

-- Miter and MiterClip have a tip within the limit; MiterClip is cut off beyond it
abbrev pub is_miter : LineJoin → Bool
is_miter Miter = true
is_miter MiterClip = true
is_miter Bevel = false
is_miter Round = false

abbrev pub is_clip : LineJoin → Bool
is_clip Miter = false
is_clip MiterClip = true
is_clip Bevel = false
is_clip Round = false

-- "Side sign is 1 or -1.": the directions of a side's edges, and the normal between them, times the sign
unfoldable pub corner_of : EdgeSide → EdgeSide → Side → Corner
corner_of before after side = record { v0 = before.v; v1 = after.v; normal = times_of (normal_of before.v after.v) (sign_of side); side = side }

-- `inward` and `normal_same_side`
unfoldable pub inward_of : Corner → Turn → Bool
inward_of c e = above (cross_of c.v0 c.v1 ⊗ sign_of c.side) && not_below (dot_of (plus_of c.v0 c.v1) e.along)

-- Rust's `f32::min`: the smaller, or the other where one is a NaN
unfoldable pub min_of : Float → Float → Float
min_of a b = pick (ne a a) b (pick (ne b b) a (pick (lt a b) a b))

-- the back vertex, projected on both edges, lies beyond their other ends
unfoldable pub past_of : Corner → Turn → Bool
past_of c e =
    let extruded = times_of c.normal e.half_width in
    above (min_of (dot_of extruded c.v1 ⊖ e.after) (dot_of extruded (negated_of c.v0) ⊖ e.before))

unfoldable pub overshoots_of : Bool → Corner → Turn → Bool
overshoots_of inward c e = inward && past_of c e

-- a sharp angle whose back vertex overshoots, or whose normal is as good as none (1e-5)
unfoldable pub folded_of : Bool → Corner → Bool
folded_of overshoots c = not (above (dot_of c.v0 c.v1)) && (overshoots || lt (square_length_of c.normal) (f32 0x3727c5ac))

unfoldable pub folds_of : Bool → Bool → Corner → Bool
folds_of inward overshoots c = inward && folded_of overshoots c

-- "the normal's squared length is above limit*limit"
unfoldable pub too_long : Point → Float → Bool
too_long normal limit = lt (limit ⊗ limit) (square_length_of normal)

unfoldable pub exceeded_of : Point → Float → Bool
exceeded_of normal limit = zero_of normal || too_long normal limit

unfoldable pub tip_of : Point → Turn → Bool
tip_of normal e = is_miter e.line_join && not (exceeded_of normal e.limit)

-- a concave side has a single point unless it overshoots, any other where its tip is within the limit
unfoldable pub kind_of : Bool → Bool → Point → Turn → Kind
kind_of concave overshoots normal e = pick concave (pick overshoots Inner Single) (pick (tip_of normal e) Single (pick (is_clip e.line_join) Clipped Beside))

-- a side is concave where it is inward and does not fold
unfoldable pub decided_of : Corner → Turn → Decided
decided_of c e =
    let inward = inward_of c e in
    let overshoots = overshoots_of inward c e in
    let fold = folds_of inward overshoots c in
    record { kind = kind_of (inward && not fold) overshoots c.normal e; fold = fold }

-- the single point: the crossing of a concave side's edges, or the tip
unfoldable pub tip_point_of : Point → Turn → SidePoints
tip_point_of normal e = single_of (plus_of e.position (times_of normal e.half_width))

-- the two points, each cut off by rule 6 as an offset from the join's position
unfoldable pub clipped_pair_of : Point → Point → Corner → Turn → SidePoints
clipped_pair_of prev next c e =
    let u = cut_of c.v0 c.normal in
    let cut = clipped_of (minus_of prev e.position) (minus_of next e.position) u (e.limit ⊗ e.half_width) in
    pair_of (plus_of e.position cut.prev) (plus_of e.position cut.next)

-- what each kind stands for: its points, how many they are, and whether it is an inner join
abbrev pub points_of : Kind → Point → Point → Corner → Turn → SidePoints
points_of Inner prev next c e = pair_of prev next
points_of Single prev next c e = tip_point_of c.normal e
points_of Clipped prev next c e = clipped_pair_of prev next c e
points_of Beside prev next c e = pair_of prev next

abbrev pub kind_count_of : Kind → ℕ
kind_count_of Inner = 2
kind_count_of Single = 1
kind_count_of Clipped = 2
kind_count_of Beside = 2

abbrev pub is_inner : Kind → Bool
is_inner Inner = true
is_inner Single = false
is_inner Clipped = false
is_inner Beside = false

-- a side decided and worked; prev and next are the points beside the join on its edges
unfoldable pub join_side_of : Corner → Point → Point → Turn → JoinSide
join_side_of c prev next e =
    let d = decided_of c e in
    record { points = points_of d.kind prev next c e; fold = d.fold; inner = is_inner d.kind }
