-- `strip::lay_joint_if` meets its contract. Assumes nothing.
use mathlib.Core.Bool.{true≢false}
use mathlib.Core.Path.{sym, ◌∙◌}
use Rattle.strip.proofs.lay_joint_if.Goals as goal

pub lay_joint-requires : goal.lay_joint-requires
lay_joint-requires c = rw c.if-write.true at c.requires

pub returns-then-write : goal.returns-then-write
returns-then-write c = λ w. c.lay_joint.ensures

pub returns-else-write : goal.returns-else-write
returns-else-write c = λ w. absurd (true≢false (sym w ∙ c.if-write.false))
