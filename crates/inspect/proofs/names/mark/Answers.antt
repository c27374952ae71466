-- `inspect::names::mark` meets its contract. The marks are those of the numbers so far. Assumes nothing.
use mathlib.Core.Path.{refl}
use Rattle.inspect.proofs.Marking.{marked_none, marked_more, marked_all}
use Rattle.inspect.proofs.names.mark.Goals as goal

pub loop-x-init : goal.loop-x-init
loop-x-init c = marked_none _ _ _

pub loop-x-preserved : goal.loop-x-preserved
loop-x-preserved c = marked_more _ _ _ _ _ _ _ refl c.loop-x.invariant c.mark_one.ensures

pub returns : goal.returns
returns c = marked_all _ _ _ _ _ c.loop-x.auto.x-index-end c.loop-x-test.false c.loop-x.invariant
