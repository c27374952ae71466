-- `stl_write::put::put_zeros` meets its contract. Assumes nothing.
use mathlib.Core.Path.{◌≡◌}
use lib.ListN.{length, take, length-replicate}
use lib.Seq.{length-take-le}
use Rattle.stl.proofs.Start.{over_start}
use Rattle.stl_write.proofs.put.put_zeros.Goals as goal

pub returns : goal.returns
returns c =
    let e : length (take c.args.n c.args.bytes.now) ≡ c.args.n = length-take-le c.args.n c.args.bytes.now c.requires in
    rw (c.fill.ensures.after (λ y k. k), e) (over_start _ _ c.args.n (length-replicate c.args.n 0) c.requires)
