-- `measure::part::judged` meets its contract. Assumes nothing.
use borrow.Author.Tests.{lt-ltb, le-ltb}
use Rattle.measure.specs.Judged.{judged_of}
use Rattle.measure.proofs.Judging.{part_none, part_some}
use Rattle.measure.proofs.part.judged.Goals as goal

pub returns-then-room-told : goal.returns-then-room-told
unfolding judged_of
returns-then-room-told c = rw (lt-ltb _ _ c.if-room-told.true)

pub returns-then-seen-run : goal.returns-then-seen-run
unfolding judged_of
returns-then-seen-run c = rw (le-ltb _ _ c.if-room-told.false, le-ltb _ _ c.if-seen-run.true)

pub returns-then-length-eq0 : goal.returns-then-length-eq0
unfolding judged_of
returns-then-length-eq0 c = rw (le-ltb _ _ c.if-room-told.false, lt-ltb _ _ c.if-seen-run.false) (part_none _ _ c.if-length-eq0.true)

pub returns-else-length-eq0 : goal.returns-else-length-eq0
unfolding judged_of
returns-else-length-eq0 c = rw (le-ltb _ _ c.if-room-told.false, lt-ltb _ _ c.if-seen-run.false) (part_some _ _ c.if-length-eq0.false)
