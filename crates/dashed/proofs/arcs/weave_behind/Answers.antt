-- `dashed::arcs::weave_behind` meets its contract. Assumes nothing.
use mathlib.Core.Bool.{false}
use Rattle.woven.proofs.Runs.{part_fits, part_passes}
use Rattle.dashed.proofs.arcs.weave_behind.Goals.{After-place_of-b}
use Rattle.dashed.proofs.arcs.weave_behind.Goals as goal

pub weave_dash-k-requires : goal.weave_dash-k-requires
weave_dash-k-requires c =
    record { dash_fits = c.requires.dash_fits; woven_fits = part_fits false c.args.pass.stroke c.args.r c.args.base _ c.args.n c.requires.woven_fits c.vertex_after-arcs.ensures c.place_of-b.result c.place_of-b.ensures }

pub returns : goal.returns
returns c =
    part_passes false c.args.pass.stroke c.args.r c.args.base _ c.args.n c.requires.woven_fits c.vertex_after-arcs.ensures c.place_of-b.result c.place_of-b.ensures _ _ _ c.weave_dash-k.result c.weave_dash-k.ensures
