-- `along::strips::pass_cap` meets its contract. Assumes nothing.
use Rattle.strip.proofs.Counting.{steps_one, puts_one}
use Rattle.along.proofs.strips.pass_cap.Goals as goal

pub step-requires : goal.step-requires
step-requires c = steps_one c.requires _ _ c.positive_count.ensures c.negative_count.ensures

pub returns : goal.returns
returns c =
    puts_one c.requires _ _ c.positive_count.ensures c.negative_count.ensures c.step.ensures c.lay_joint_if.ensures
