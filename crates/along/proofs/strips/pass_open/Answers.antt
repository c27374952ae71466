-- `along::strips::pass_open` meets its contract. Assumes nothing.
use Rattle.along.proofs.Writing.{begin_has, pass_has, finish_has, open_puts}
use Rattle.along.proofs.strips.pass_open.Goals as goal

pub begin-begun-requires : goal.begin-begun-requires
begin-begun-requires c =
    begin_has c.args.pass.stroke _ _ _ c.first_leg-leg.ensures c.requires

pub pass_behind-w-requires : goal.pass_behind-w-requires
pass_behind-w-requires c =
    pass_has c.args.pass.stroke _ _ _ c.first_leg-leg.ensures c.requires c.begin-begun.ensures

pub finish-requires : goal.finish-requires
finish-requires c =
    finish_has c.args.pass.stroke _ _ _ c.first_leg-leg.ensures c.requires c.begin-begun.ensures c.pass_behind-w.ensures

pub returns : goal.returns
returns c =
    open_puts c.args.pass.stroke _ _ _ c.first_leg-leg.ensures c.requires c.begin-begun.ensures c.pass_behind-w.ensures c.finish.ensures
