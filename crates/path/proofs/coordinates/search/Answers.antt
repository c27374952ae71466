-- `path::coordinates::search` meets its contract. Assumes nothing.
use mathlib.Core.Path.{sym, ◌∙◌}
use native.Mathlib.Omega.{arith}
use Rattle.path.proofs.Bounding.{within_none, within_one, within_stop, within_all, some_first, none_outside}
use Rattle.path.proofs.coordinates.search.Goals as goal

pub loop-i-init : goal.loop-i-init
loop-i-init c = within_none _

pub returns-then-not-is_in_limits : goal.returns-then-not-is_in_limits
returns-then-not-is_in_limits c =
    some_first _ _ c.loop-i-test.true (within_stop _ _ c.loop-i.invariant c.loop-i-test.true (sym c.is_in_limits.ensures ∙ c.if-not-is_in_limits.true))

pub loop-i-preserved : goal.loop-i-preserved
loop-i-preserved c =
    within_one _ _ c.loop-i.invariant c.loop-i-test.true (sym c.is_in_limits.ensures ∙ c.if-not-is_in_limits.false)

pub returns : goal.returns
returns c = none_outside _ (omega (arith, within_all _ _ c.loop-i.invariant c.loop-i-test.false, c.loop-i.invariant.reached, c.loop-i-test.false))
