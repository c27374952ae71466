-- `cuts::run_cuts::count_points` meets its contract. The plan: the loop's invariant is Counting's `Counting`, from its start by one point a turn to the end of the points. Assumes nothing.
use native.Mathlib.Omega.{arith}
use Rattle.cuts.proofs.Counting.{counting_none, counting_one, counting_all}
use Rattle.cuts.proofs.run_cuts.count_points.Goals as goal

pub loop-j-init : goal.loop-j-init
loop-j-init c = let pre = c.requires in counting_none _ _ _ _ _ _ pre.2 pre.1

pub visit-t-requires : goal.visit-t-requires
visit-t-requires c = (c.requires.0, c.loop-j.invariant.bounded)

pub loop-j-preserved : goal.loop-j-preserved
loop-j-preserved c =
    counting_one _ _ _ _ _ _ _ _ c.loop-j.invariant _ (rw c.count-j-end.ensures at c.loop-j-test.true) (rw c.at.ensures at c.visit-t.ensures)

pub returns : goal.returns
returns c = counting_all _ _ _ _ _ _ _ _ c.loop-j.invariant (rw c.count-j-end.ensures at c.loop-j-test.false)
