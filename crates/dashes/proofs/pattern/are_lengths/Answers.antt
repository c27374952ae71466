-- `dashes::pattern::are_lengths` meets its contract. The invariant: the whole list is in range exactly where the lengths from `d-index` on are. Assumes nothing.
use mathlib.Core.Path.{sym, ◌∙◌}
use Rattle.dashes.proofs.Looping.{tested_none, tested_one, tested_stop, tested_all}
use Rattle.dashes.proofs.pattern.are_lengths.Goals as goal

pub loop-d-init : goal.loop-d-init
loop-d-init c = tested_none _

pub returns-then-not-is_length : goal.returns-then-not-is_length
returns-then-not-is_length c = tested_stop _ _ c.loop-d.invariant c.loop-d-test.true (sym c.is_length.ensures ∙ c.if-not-is_length.true)

pub loop-d-preserved : goal.loop-d-preserved
loop-d-preserved c = tested_one _ _ c.loop-d.invariant c.loop-d-test.true (sym c.is_length.ensures ∙ c.if-not-is_length.false)

pub returns : goal.returns
returns c = tested_all _ _ c.loop-d.invariant c.loop-d-test.false
