-- `along::Walk` passes a kept point. Assumes nothing.
use mathlib.Core.Path.{◌≡◌, ap}
use Rattle.endpoint.specs.Endpoint.{side_count_of}
use Rattle.joints.specs.Joint.{joint_of, joints_from}
use Rattle.joints.specs.Leg.{next_leg_of}
use Rattle.join.specs.Record.{counts_of}
use Rattle.join.specs.declared.record.Counts.{Counts}
use Rattle.strip.proofs.Counting.{steps_one, puts_one}
use Rattle.along.specs.Points.{visit_of, walked}
use Rattle.along.proofs.WalkPen.pass_kept.Goals.{After-pass_joint-c}
use Rattle.along.proofs.WalkPen.pass_kept.Goals as goal

-- what was passed, told of the next leg's definition
counted : (c : After-pass_joint-c) → let a = c.args in let j = joint_of a.pass.stroke a.self.leg (next_leg_of a.pass.stroke.half_width a.self.leg a.p) in
    (c.pass_joint-c.result.positive ≡ side_count_of j.positive) × (c.pass_joint-c.result.negative ≡ side_count_of j.negative)
unfolding counts_of
counted c = let e = rw c.next_leg-next.ensures at c.pass_joint-c.ensures.value in (ap (λ (k : Counts). k.positive) e, ap (λ (k : Counts). k.negative) e)

pub pass_joint-c-requires : goal.pass_joint-c-requires
unfolding joints_from
pass_joint-c-requires c = rw c.next_leg-next.ensures c.requires

pub step-requires : goal.step-requires
unfolding joints_from
step-requires c = let n = counted (goal.at.step-requires c).After-pass_joint-c in steps_one c.requires _ _ n.0 n.1

pub returns : goal.returns
unfolding joints_from walked visit_of
returns c =
    let next = c.next_leg-next.ensures in
    let n = counted (goal.at.returns c).After-pass_joint-c in
    record { leg = next; puts = puts_one c.requires _ _ n.0 n.1 c.step.ensures (λ w. rw next at (c.pass_joint-c.ensures.lays w)) }
