-- `weave::pass_points` meets its contract. Assumes nothing.
use Rattle.along.proofs.Walking.{walked_kept}
use Rattle.weave.proofs.pass_points.Goals as goal

pub returns : goal.returns
returns c = let e = c.pass_stretch.ensures in record { leg = rw (walked_kept c.args.pass.stroke c.args.s.sure c.args.w.leg _) e.leg; puts = e.puts }
