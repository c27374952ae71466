-- `woven::weave_behind` meets its contract. Assumes nothing.
use Rattle.woven.proofs.Runs.{part_passes}
use Rattle.woven.proofs.weave_behind.Goals as goal

pub returns : goal.returns
returns c =
    let a = c.args in
    let is = c.vertex_after-arcs.ensures in
    part_passes a.closed a.pass.stroke a.r a.base _ a.n c.requires is c.place_of-b.result c.place_of-b.ensures _ _ _ c.weave_run-woven.result c.weave_run-woven.ensures
