-- `runs::part::noted` meets its contract. Assumes nothing.
use borrow.Author.Tests.{lt-ltb, le-ltb, le-leb, lt-leb}
use Rattle.runs.specs.Part.{ended_with, noted_of}
use Rattle.runs.proofs.part.noted.Goals as goal

pub returns-then-names_point : goal.returns-then-names_point
unfolding noted_of
returns-then-names_point c = rw (← c.names_point.ensures, c.if-names_point.true)

pub returns-then-s-run : goal.returns-then-s-run
unfolding noted_of ended_with
returns-then-s-run c = rw (← c.names_point.ensures, c.if-names_point.false, lt-ltb _ _ c.if-s-run.true)

pub returns-then-s-run-2 : goal.returns-then-s-run-2
unfolding noted_of ended_with
returns-then-s-run-2 c = rw (← c.names_point.ensures, c.if-names_point.false, le-ltb _ _ c.if-s-run.false, le-leb _ _ c.if-s-run-2.true)

pub returns : goal.returns
unfolding noted_of ended_with
returns c = rw (← c.names_point.ensures, c.if-names_point.false, le-ltb _ _ c.if-s-run.false, lt-leb _ _ c.if-s-run-2.false)
