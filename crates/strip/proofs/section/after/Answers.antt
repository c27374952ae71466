-- `strip::section::after` meets its contract. Assumes nothing.
use Rattle.strip.proofs.Joints.{after_counted}
use Rattle.strip.proofs.section.after.Goals as goal

pub returns : goal.returns
returns c =
    let j = c.args.j in
    rw (c.vertex_after-2.ensures, c.vertex_after.ensures, c.negative_count-n.ensures, c.positive_count-p.ensures, ← after_counted c.args.base.0 j)
