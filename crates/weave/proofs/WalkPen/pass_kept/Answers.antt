-- `weave::Walk` passes a kept point. Assumes nothing.
use Rattle.along.specs.Points.{visit_of, walked}
use Rattle.weave.specs.Points.{bends_from}
use Rattle.weave.proofs.WalkPen.pass_kept.Goals as goal

pub pass_bend-requires : goal.pass_bend-requires
unfolding bends_from
pass_bend-requires c = rw (c.joint_again.ensures, c.next_leg-next.ensures) c.requires

pub returns : goal.returns
unfolding bends_from walked visit_of
returns c =
    record { leg = c.next_leg-next.ensures; puts = rw (c.joint_again.ensures, c.next_leg-next.ensures) at c.pass_bend.ensures }
