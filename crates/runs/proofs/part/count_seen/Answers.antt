-- `runs::part::count_seen` meets its contract. The plan: the loop's invariant is `Seeing`, from its start (`seeing_none`) by one verb a turn (`seeing_turn`) to the
-- end of the verbs (`seeing_all`). Assumes nothing.
use Rattle.runs.proofs.Drawing.{going_few, going_fits}
use Rattle.runs.proofs.Seeing.{seeing_none, going, seeing_turn, seeing_all}
use Rattle.runs.proofs.part.count_seen.Goals as goal

pub loop-verb-init : goal.loop-verb-init
loop-verb-init c = rw c.start-g.ensures (seeing_none _ _ _ _ _ _)

pub count_verb-place-requires-clause-cuts_few : goal.count_verb-place-requires-clause-cuts_few
count_verb-place-requires-clause-cuts_few c = going_few (going c.loop-verb.invariant) c.loop-verb-test.true c.requires.cuts_few

pub count_verb-place-requires-clause-fits : goal.count_verb-place-requires-clause-fits
count_verb-place-requires-clause-fits c = going_fits (going c.loop-verb.invariant) c.loop-verb-test.true c.requires.fits

pub loop-verb-preserved : goal.loop-verb-preserved
loop-verb-preserved c =
    rw (c.moved-g.ensures, c.noted-s.ensures) (seeing_turn c.loop-verb.invariant c.loop-verb-test.true c.count_verb-place.ensures)

pub returns : goal.returns
returns c = seeing_all c.loop-verb.invariant c.loop-verb-test.false
