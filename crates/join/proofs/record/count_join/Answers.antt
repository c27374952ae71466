-- `join::record::count_join` meets its contract: a side has as many points as its kind says. Assumes nothing.
use mathlib.Core.Path.{◌≡◌, refl}
use Rattle.plane.specs.declared.vector.Point.{Point}
use Rattle.endpoint.specs.Endpoint.{single_of, pair_of, side_count_of}
use Rattle.join.specs.Side.{tip_point_of, clipped_pair_of, points_of, kind_count_of, join_side_of}
use Rattle.join.specs.Record.{side_positions_of, counts_of}
use Rattle.join.specs.declared.side.Corner.{Corner}
use Rattle.join.specs.declared.side.Kind.{Kind}
use Rattle.join.specs.declared.side.Kind.TheVariants.{Inner, Single, Clipped, Beside}
use Rattle.join.specs.declared.side.Turn.{Turn}
use Rattle.join.proofs.record.count_join.Goals as goal

kind-count : (k : Kind) (prev next : Point) (c : Corner) (e : Turn) → side_count_of (points_of k prev next c e) ≡ kind_count_of k
unfolding tip_point_of clipped_pair_of single_of pair_of
kind-count Inner prev next c e = refl
kind-count Single prev next c e = refl
kind-count Clipped prev next c e = refl
kind-count Beside prev next c e = refl

pub returns : goal.returns
unfolding counts_of side_positions_of join_side_of
returns c = rw (c.kind_count-2.ensures, c.kind_count.ensures, c.decide-n.ensures, c.decide-p.ensures, c.corner_of-2.ensures, c.corner_of.ensures, c.turn_of-e.ensures, kind-count, kind-count)
