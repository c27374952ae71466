-- `inspect::marks::mark_one` meets its contract. Assumes nothing.
use Rattle.inspect.proofs.Marking.{one_below, one_above, one_in}
use Rattle.inspect.proofs.marks.mark_one.Goals as goal

pub returns-then-x-base : goal.returns-then-x-base
returns-then-x-base c = one_below _ _ _ c.if-x-base.true

pub returns-then-word-marks : goal.returns-then-word-marks
returns-then-word-marks c = one_in _ _ _ c.if-x-base.false c.if-word-marks.true

pub returns-else-word-marks : goal.returns-else-word-marks
returns-else-word-marks c = one_above _ _ _ c.if-x-base.false c.if-word-marks.false
