-- `along::stretch::Stretch::on` meets its contract. Assumes nothing.
use Rattle.kept.proofs.Indexed.{points_one_at}
use Rattle.along.proofs.stretch.Stretch.on.Goals as goal

pub returns-clause-points : goal.returns-clause-points
returns-clause-points c =
    let k = c.args.k in
    rw c.endpoint_after.ensures (points_one_at k.points.coords.now k.points.first.0 k.second k.within)
