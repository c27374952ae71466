-- `dashed::arcs::weave_dash` meets its contract. Assumes nothing.
use Rattle.dashed.proofs.Following.{fits_numbered}
use Rattle.dashed.proofs.Weaving.{begin_has, on_has, dash_woven}
use Rattle.dashed.proofs.arcs.weave_dash.Goals as goal

pub begin-requires : goal.begin-requires
begin-requires c =
    begin_has c.args.pass.stroke c.args.r _ _ _ c.leg_of-leg.ensures c.args.base c.requires.woven_fits

pub weave_on-w-requires : goal.weave_on-w-requires
weave_on-w-requires c =
    record { feed_fits = (c.requires.dash_fits.feed, c.requires.dash_fits.numbered.1.1); weave_fits = on_has c.args.pass.stroke c.args.r _ _ _ c.leg_of-leg.ensures c.args.base c.requires.woven_fits c.begin.ensures (fits_numbered c.requires.dash_fits) }

pub returns : goal.returns
returns c =
    dash_woven c.args.pass.stroke c.args.r _ _ _ c.leg_of-leg.ensures c.args.base c.begin.ensures c.weave_on-w.ensures
