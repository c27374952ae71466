-- W-209's arcs about one joint: those of its sides, and the fan of a round cap. Assumes nothing.
use Rattle.std.specs.Prelude.{ℕ, suc, ◌-◌, ◌^◌, Bool, true, false, not, ◌&&◌, cond, Float}
use Rattle.plane.specs.Vector.{point, minus_of, divided_of}
use Rattle.plane.specs.declared.vector.Point.{Point}
use Rattle.endpoint.specs.Endpoint.{source_of, vertex_after}
use Rattle.endpoint.specs.declared.EndpointData.{EndpointData}
use Rattle.endpoint.specs.declared.InnerJoin.{InnerJoin}
use Rattle.endpoint.specs.declared.InnerJoin.TheVariants as inner
use Rattle.endpoint.specs.declared.Side.{Side}
use Rattle.endpoint.specs.declared.Side.TheVariants.{Positive, Negative}
use Rattle.endpoint.specs.declared.SidePoints.{SidePoints}
use Rattle.endpoint.specs.declared.SidePoints.TheVariants.{Single, Pair}
use Rattle.endpoint.specs.declared.VertexId.{VertexId}
use Rattle.vertices.specs.Base.{side_points_of}
use Rattle.pieces.specs.Piece.{Piece}
use Rattle.arc.specs.Arc.{arc_piece, cap_piece}
use Rattle.arc.specs.declared.End.{End}
use Rattle.arc.specs.declared.Hub.{Hub}
use Rattle.fans.specs.declared.Round.{Round}
use Rattle.fans.specs.Weft.{given}

-- "the normals of two vertices on one centre": rule 8's, of a point beside e
unfoldable pub normal_at : EndpointData → Float → Float → Point
normal_at e x y = divided_of (minus_of (point x y) e.position) e.half_width

-- of a side's first vertex, and of its last
unfoldable pub first_normal : EndpointData → SidePoints → Point
first_normal e (Single x y) = normal_at e x y
first_normal e (Pair x0 y0 x1 y1) = normal_at e x0 y0

unfoldable pub last_normal : EndpointData → SidePoints → Point
last_normal e (Single x y) = normal_at e x y
last_normal e (Pair x0 y0 x1 y1) = normal_at e x1 y1

-- "with their centre's advancement"; "the side of its whole arc's first vertex"
unfoldable pub hub_of : EndpointData → Side → Point → Hub
hub_of e side ahead = record { position = e.position; half_width = e.half_width; advancement = e.advancement; source = source_of e.id side; ahead = ahead }

abbrev pub is_pair : SidePoints → Bool
is_pair (Single x y) = false
is_pair (Pair x0 y0 x1 y1) = true

-- inner joins are judged per side
abbrev pub is_inner : Side → InnerJoin → Bool
is_inner Positive inner.Neither = false
is_inner Positive inner.Positive = true
is_inner Positive inner.Negative = false
is_inner Positive inner.Both = true
is_inner Negative inner.Neither = false
is_inner Negative inner.Positive = false
is_inner Negative inner.Negative = true
is_inner Negative inner.Both = true

abbrev pub folds_at : EndpointData → Side → Bool
folds_at e Positive = e.fold_positive
folds_at e Negative = e.fold_negative

-- "With Round, a side that is a pair, not an inner join and not a fold, gets one arc"
unfoldable pub gets_arc : Bool → EndpointData → Side → Bool
gets_arc round e side = ((round && is_pair (side_points_of e side)) && not (is_inner side e.inner_join)) && not (folds_at e side)

-- "from its first vertex", which has the number first, to its second
abbrev pub side_arc : ℕ → EndpointData → Side → VertexId → Point → ℕ → Piece
side_arc k e side first ahead i =
    let p = side_points_of e side in
    arc_piece k (hub_of e side ahead) i (record { vertex = first; normal = first_normal e p }) (record { vertex = vertex_after first 1; normal = last_normal e p })

unfoldable pub side_weft : Round → EndpointData → Side → VertexId → Point → ℕ → Piece
side_weft r e side first ahead = given (gets_arc r.joins e side) (side_arc r.detail e side first ahead)

-- an end at a joint with one point to a side
abbrev pub cap_end : EndpointData → Side → VertexId → End
cap_end e side vertex = record { vertex = vertex; normal = first_normal e (side_points_of e side) }

-- "A round cap, from the negative vertex at a start and the positive at an end": n and p are the numbers of its vertices
unfoldable pub start_fan : ℕ → EndpointData → VertexId → VertexId → Point → ℕ → Piece
start_fan k e n p outward i = cap_piece k (hub_of e Positive outward) (source_of e.id Negative) i (cap_end e Negative n) (cap_end e Positive p)

unfoldable pub end_fan : ℕ → EndpointData → VertexId → VertexId → Point → ℕ → Piece
end_fan k e n p outward i = cap_piece k (hub_of e Positive outward) (source_of e.id Positive) i (cap_end e Positive p) (cap_end e Negative n)

-- "2^k - 1 vertices and as many triangles", and of a cap "2^(k+1) - 1 of each", where it is there
abbrev pub arc_size : Bool → ℕ → ℕ
arc_size there k = cond there (2 ^ k - 1) 0

abbrev pub fan_size : Bool → ℕ → ℕ
fan_size there k = cond there (2 ^ suc k - 1) 0
