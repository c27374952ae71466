-- `dashed::strips::strip_dash` meets its contract. Assumes nothing.
use Rattle.dashed.proofs.Stripping.{begin_has, on_has, dash_strips}
use Rattle.dashed.proofs.strips.strip_dash.Goals as goal

pub begin-w-requires : goal.begin-w-requires
begin-w-requires c =
    begin_has c.args.pass _ _ _ c.leg_of-leg.ensures c.requires.strip_fits

pub strip_on-requires : goal.strip_on-requires
strip_on-requires c =
    record { feed_fits = (c.requires.dash_fits.feed, c.requires.dash_fits.numbered.1.1); strip_fits = on_has c.args.pass _ _ _ c.leg_of-leg.ensures c.requires.strip_fits c.begin-w.ensures }

pub returns : goal.returns
returns c =
    dash_strips c.args.pass _ _ _ c.leg_of-leg.ensures c.requires.strip_fits c.begin-w.ensures _ _ _ _ c.strip_on.ensures
