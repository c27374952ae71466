-- `runs::cursor::moved` meets its contract. Assumes nothing.
use Rattle.runs.specs.Cursor.{moved_of}
use Rattle.runs.proofs.cursor.moved.Goals as goal

pub returns-then-names_point : goal.returns-then-names_point
unfolding moved_of
returns-then-names_point c = rw (← c.names_point.ensures, c.if-names_point.true)

pub returns : goal.returns
unfolding moved_of
returns c = rw (c.endpoint_after.ensures, ← c.names_point.ensures, c.if-names_point.false)
