-- `dashes::pattern::worn` meets its contract. The invariant: wearing the offset down from the first length comes to the same as wearing what remains
-- down from length `index`. Assumes nothing.
use native.Mathlib.Omega.{arith}
use Rattle.dashes.proofs.Looping.{wearing_none, wearing_one, wearing_stop, wearing_all}
use Rattle.dashes.proofs.pattern.worn.Goals as goal

pub loop-index-init : goal.loop-index-init
loop-index-init c = wearing_none _ _ _

pub returns-then-not-d-rest : goal.returns-then-not-d-rest
returns-then-not-d-rest c = wearing_stop _ _ _ _ _ c.loop-index.invariant c.length_at-d.result c.length_at-d.ensures (omega arith) c.if-not-d-rest.true

pub loop-index-preserved : goal.loop-index-preserved
loop-index-preserved c = wearing_one _ _ _ _ _ c.loop-index.invariant c.length_at-d.result c.length_at-d.ensures (omega arith) c.if-not-d-rest.false

pub returns : goal.returns
returns c = wearing_all _ _ _ _ _ c.loop-index.invariant c.loop-index-test.false
