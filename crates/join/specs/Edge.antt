-- Rule 4: "Edge with unit direction t has m = (-t.y, t.x). Its positive points are end + m*h, its negative ones end - m*h." Assumes nothing.
use Rattle.std.specs.Prelude.{Float}
use Rattle.plane.specs.Vector.{plus_of, minus_of, times_of, divided_of, turned_of, length_of, normalize_of}
use Rattle.plane.specs.declared.vector.Point.{Point}
use Rattle.join.specs.declared.edge.Edge.{Edge}
use Rattle.join.specs.declared.edge.EdgeSide.{EdgeSide}

-- the points beside an edge's ends, and the direction from the first to the second
unfoldable pub edge_side_of : Point → Point → EdgeSide
edge_side_of from to = record { from = from; to = to; v = normalize_of (minus_of to from) }

unfoldable pub edge_of : Point → Point → Float → Edge
edge_of from to h =
    let d = minus_of to from in
    let t = divided_of d (length_of d) in
    let mh = times_of (turned_of t) h in
    record {
      length = length_of d;
      t = t;
      positive = edge_side_of (plus_of from mh) (plus_of to mh);
      negative = edge_side_of (minus_of from mh) (minus_of to mh);
    }
