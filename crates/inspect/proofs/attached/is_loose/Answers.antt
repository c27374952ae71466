-- `inspect::attached::is_loose` meets its contract. The search goes back from the triangle before; what is left to ask stays the same question. Assumes nothing.
use mathlib.Core.Path.{◌∙◌}
use Rattle.inspect.proofs.Judging.{is_touching, not_touching, held_here, held_back, held_none}
use Rattle.inspect.proofs.attached.is_loose.Goals as goal

pub returns-then-shared-eq2 : goal.returns-then-shared-eq2
returns-then-shared-eq2 c = held_here _ _ _ c.loop-s-test.true c.loop-s.auto.s c.loop-s.invariant (is_touching _ _ _ _ _ _ c.triangle_at.ensures c.triangle_at-u.ensures c.shared.ensures c.if-shared-eq2.true)

pub loop-s-preserved : goal.loop-s-preserved
loop-s-preserved c = c.loop-s.invariant ∙ held_back _ _ _ c.loop-s-test.true (not_touching _ _ _ _ _ _ c.triangle_at.ensures c.triangle_at-u.ensures c.shared.ensures c.if-shared-eq2.false)

pub returns : goal.returns
returns c = held_none _ _ _ c.loop-s-test.false c.loop-s.invariant
