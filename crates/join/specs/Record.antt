-- Both sides of a join, and its endpoint's record with them set. Assumes nothing.
use Rattle.std.specs.Prelude.{Bool, Float}
use Rattle.plane.specs.F32.{◌⊖◌}
use Rattle.plane.specs.Normal.{pick}
use Rattle.plane.specs.Vector.{plus_of}
use Rattle.endpoint.specs.Endpoint.{side_count_of}
use Rattle.endpoint.specs.declared.EndpointData.{EndpointData}
use Rattle.endpoint.specs.declared.InnerJoin.{InnerJoin}
use Rattle.endpoint.specs.declared.InnerJoin.TheVariants.{Neither, Positive, Negative, Both}
use Rattle.endpoint.specs.declared.Side.{Side}
use Rattle.endpoint.specs.declared.Side.TheVariants.{Positive as OnPositive, Negative as OnNegative}
use Rattle.join.specs.Side.{corner_of, join_side_of}
use Rattle.join.specs.declared.edge.Edge.{Edge}
use Rattle.join.specs.declared.edge.EdgeSide.{EdgeSide}
use Rattle.join.specs.declared.record.Counts.{Counts}
use Rattle.join.specs.declared.side.JoinSide.{JoinSide}
use Rattle.join.specs.declared.side.Turn.{Turn}

-- prev and next are the advancements of the endpoints before and after the join: an edge is as long as its ends' advancements differ
unfoldable pub turn_of : Edge → EndpointData → Edge → Float → Float → Float → Turn
turn_of before e after prev next limit = record {
  position = e.position;
  half_width = e.half_width;
  limit = limit;
  before = e.advancement ⊖ prev;
  after = next ⊖ e.advancement;
  along = plus_of before.t after.t;
  line_join = e.line_join;
}

-- one side, from its edges before and after the join
abbrev pub side_of : EdgeSide → EdgeSide → Side → Turn → JoinSide
side_of before after side e = join_side_of (corner_of before after side) before.to after.from e

unfoldable pub inner_join_of : Bool → Bool → InnerJoin
inner_join_of positive negative = pick positive (pick negative Both Positive) (pick negative Negative Neither)

-- the endpoint's record with its sides set
abbrev pub worked_of : EndpointData → JoinSide → JoinSide → EndpointData
worked_of e p n = record {
  position = e.position;
  half_width = e.half_width;
  advancement = e.advancement;
  line_join = e.line_join;
  id = e.id;
  positive = p.points;
  negative = n.points;
  fold_positive = p.fold;
  fold_negative = n.fold;
  inner_join = inner_join_of p.inner n.inner;
}

-- "A join is worked from the unmoved points of its two edges, both sides, by `compute_join_side_positions`."
unfoldable pub side_positions_of : Edge → EndpointData → Edge → Float → Float → Float → EndpointData
side_positions_of before e after prev next limit =
    let turn = turn_of before e after prev next limit in
    let p = side_of before.positive after.positive OnPositive turn in
    let n = side_of before.negative after.negative OnNegative turn in
    worked_of e p n

-- how many points a join's sides have
unfoldable pub counts_of : EndpointData → Counts
counts_of e = record { positive = side_count_of e.positive; negative = side_count_of e.negative }
