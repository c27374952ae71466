-- `reader::pass::pass` meets its contract. Assumes nothing.
use mathlib.Core.Path.{sym, ◌∙◌}
use Rattle.reader.proofs.Passing.{passes_turn, passes_over}
use Rattle.reader.proofs.pass.pass.Goals as goal

pub loop-b-preserved : goal.loop-b-preserved
loop-b-preserved c = passes_turn _ _ _ _ _ _ _ _ c.loop-b.invariant _ _ c.loop-b-test.true (sym c.is_over.ensures ∙ c.if-is_over.false) c.step-q.ensures

pub returns-then-is_over : goal.returns-then-is_over
returns-then-is_over c = passes_over _ _ _ _ _ _ _ _ c.loop-b.invariant (sym c.is_over.ensures ∙ c.if-is_over.true)
