-- `dashes::count::count_edge` meets its contract. The invariant: the cuts passed so far and those still to come on the edge are all its cuts, and what is
-- behind them is the same spot; a cut that does not fall, or the limit, ends both. Assumes nothing.
use mathlib.Core.Path.{sym, ◌∙◌}
use native.Mathlib.Omega.{arith}
use Rattle.dashes.proofs.Looping.{counting_none, counting_one, counting_stop, counting_all, counted}
use Rattle.dashes.proofs.count.count_edge.Goals as goal

pub loop-count-init : goal.loop-count-init
loop-count-init c = counting_none _ _ _

pub returns-then-not-falls : goal.returns-then-not-falls
returns-then-not-falls c =
    let l = c.loop-count in
    let stops = sym c.falls.ensures ∙ c.if-not-falls.true in
    counted _ _ _ _ l.invariant.reached l.invariant.index (counting_stop _ _ _ _ _ l.invariant (omega arith) stops)

pub loop-count-preserved : goal.loop-count-preserved
loop-count-preserved c =
    let l = c.loop-count in
    let falls = sym c.falls.ensures ∙ c.if-not-falls.false in
    rw c.passed-spot.ensures (counting_one _ _ _ _ _ l.invariant (omega arith) falls)

pub returns : goal.returns
returns c =
    let l = c.loop-count in
    counted _ _ _ _ (omega arith) (omega (arith, l.invariant.index, c.loop-count-test.false)) (counting_all _ _ _ _ _ l.invariant c.loop-count-test.false)
