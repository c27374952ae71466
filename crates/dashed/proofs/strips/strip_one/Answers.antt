-- `dashed::strips::strip_one` meets its contract. Assumes nothing.
use Rattle.dashed.proofs.Stripping.{one_passed, one_walked}
use Rattle.dashed.proofs.strips.strip_one.Goals as goal

pub pass_points-requires : goal.pass_points-requires
pass_points-requires c =
    let a = c.args in
    rw (one_passed a.pass.stroke a.w.leg a.q) c.requires.strip_fits

pub returns : goal.returns
returns c =
    let a = c.args in
    rw (one_passed a.pass.stroke a.w.leg a.q, one_walked a.pass.stroke a.w.leg a.q) at c.pass_points.ensures
