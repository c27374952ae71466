-- `woven::weave_round` meets its contract. Assumes nothing.
use native.Mathlib.Omega.{arith}
use Rattle.woven.proofs.Runs.{ids, closed_fits, way_room, few_round, closed_passes}
use Rattle.along.proofs.Held.{held_within}
use Rattle.woven.proofs.weave_round.Goals as goal

pub weave_closed-w-requires : goal.weave_closed-w-requires
weave_closed-w-requires c =
    let a = c.args in
    closed_fits a.pass.stroke a.r a.base _ _ _ c.requires (ids a.pass.stroke.near (held_within a.k))

pub close_round-requires : goal.close_round-requires
close_round-requires c =
    let a = c.args in
    way_room a.pass.stroke a.r a.base _ _ _ c.requires c.weave_closed-w.ensures

pub overflow_add-result : goal.overflow_add-result
overflow_add-result c =
    let a = c.args in
    omega (arith, few_round a.pass.stroke a.r a.base _ _ _ c.requires c.weave_closed-w.ensures)

pub returns : goal.returns
returns c =
    let a = c.args in
    closed_passes a.pass.stroke a.r a.base _ _ _ c.requires c.weave_closed-w.ensures _ c.close_round.ensures
