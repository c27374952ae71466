-- `runs::draw_runs` meets its contract. The plan: the loop's invariant is Drawing's `Going`, from its start (`going_none`) by one verb a turn (`going_turn`) to the end of the verbs (`going_all`). Assumes nothing.
use Rattle.runs.proofs.Drawing.{going_none, going_few, going_fits, going_turn, going_all}
use Rattle.runs.proofs.draw_runs.Goals as goal

pub loop-verb-init : goal.loop-verb-init
loop-verb-init c = rw c.start-g.ensures (going_none _ _ _ _ _ _)

pub draw_verb-place-requires-clause-cuts_few : goal.draw_verb-place-requires-clause-cuts_few
draw_verb-place-requires-clause-cuts_few c = going_few c.loop-verb.invariant c.loop-verb-test.true c.requires.cuts_few

pub draw_verb-place-requires-clause-fits : goal.draw_verb-place-requires-clause-fits
draw_verb-place-requires-clause-fits c = going_fits c.loop-verb.invariant c.loop-verb-test.true c.requires.fits

pub loop-verb-preserved : goal.loop-verb-preserved
loop-verb-preserved c = rw c.moved-g.ensures (going_turn c.loop-verb.invariant c.loop-verb-test.true c.draw_verb-place.ensures)

pub returns : goal.returns
returns c = going_all c.loop-verb.invariant c.loop-verb-test.false
