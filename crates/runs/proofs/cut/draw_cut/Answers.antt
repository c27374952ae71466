-- `runs::cut::draw_cut` meets its contract. Assumes nothing.
use Rattle.runs.proofs.Cutting.{dashes_few, dashes_fit, dashes_drawn, run_fits, run_drawn}
use Rattle.runs.proofs.cut.draw_cut.Goals as goal

pub draw_dashes-requires-clause-ds_nonzero : goal.draw_dashes-requires-clause-ds_nonzero
draw_dashes-requires-clause-ds_nonzero c = dashes_few c.args.pass _ _ _ _ c.in-Some.ensures c.round_of-r.ensures c.requires.cuts_few

pub draw_dashes-requires-clause-fits : goal.draw_dashes-requires-clause-fits
draw_dashes-requires-clause-fits c = dashes_fit c.args.pass _ _ _ _ c.in-Some.ensures c.round_of-r.ensures c.requires.fits

pub returns-in-Some : goal.returns-in-Some
returns-in-Some c = dashes_drawn c.args.pass _ _ _ _ c.in-Some.ensures c.round_of-r.ensures c.draw_dashes.ensures

pub draw_run-requires : goal.draw_run-requires
draw_run-requires c = run_fits c.args.pass _ _ _ _ c.in-None.ensures c.requires.fits

pub returns-in-None : goal.returns-in-None
returns-in-None c = run_drawn c.args.pass _ _ _ _ c.in-None.ensures c.draw_run.ensures
