-- `weave::strips::begin` meets its contract. Assumes nothing.
use Rattle.strip.proofs.Counting.{steps_one}
use Rattle.weave.proofs.Writing.{cap_next}
use Rattle.weave.proofs.strips.begin.Goals as goal

pub step-requires : goal.step-requires
step-requires c =
    rw c.start.ensures (steps_one c.requires c.positive_count-p.result c.negative_count-n.result (rw c.start_cap-j.ensures at c.positive_count-p.ensures) (rw c.start_cap-j.ensures at c.negative_count-n.ensures))

pub returns : goal.returns
returns c =
    rw (c.unwoven.ensures, cap_next c.requires c.positive_count-p.result c.negative_count-n.result (rw c.start_cap-j.ensures at c.positive_count-p.ensures) (rw c.start_cap-j.ensures at c.negative_count-n.ensures) c.step.result (rw c.start.ensures at c.step.ensures))
