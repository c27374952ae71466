-- `cuts::count_cuts` meets its contract. The plan: the loop's invariant is Passing's `Going`, from its start by one verb a turn to the end of the verbs. Assumes nothing.
use mathlib.Core.Path.{◌≡◌}
use Rattle.dashes.specs.Pattern.{worn_of, first_cut}
use Rattle.cuts.proofs.Passing.{first_index, going_none, going_inside, going_one, going_all}
use Rattle.cuts.proofs.count_cuts.Goals.{After-first_cut-b}
use Rattle.cuts.proofs.count_cuts.Goals as goal

-- the first cut
cut : (c : After-first_cut-b) → c.first_cut-b.result ≡ first_cut c.args.ds.now (worn_of c.args.ds.now c.args.offset)
cut c = rw c.worn.ensures at c.first_cut-b.ensures

pub worn-requires : goal.worn-requires
worn-requires c = c.requires.ds_nonzero

pub first_cut-b-requires : goal.first_cut-b-requires
first_cut-b-requires c = c.requires.ds_nonzero

pub loop-verb-init : goal.loop-verb-init
loop-verb-init c = going_none _ _ _ _ _

pub count_verb-g-requires : goal.count_verb-g-requires
count_verb-g-requires c =
    let begins = (goal.at.count_verb-g-requires c).After-first_cut-b in
    (c.requires.ds_nonzero, rw (cut begins) (first_index _ _), going_inside _ _ _ _ _ _ _ c.loop-verb.invariant c.requires.coords_len.0 c.requires.coords_len.1)

pub loop-verb-preserved : goal.loop-verb-preserved
loop-verb-preserved c = going_one _ _ _ _ _ _ _ c.loop-verb.invariant _ c.loop-verb-test.true c.count_verb-g.ensures

pub returns : goal.returns
returns c = rw (cut (goal.at.returns c).After-first_cut-b) at (going_all _ _ _ _ _ _ _ c.loop-verb.invariant c.loop-verb-test.false)
