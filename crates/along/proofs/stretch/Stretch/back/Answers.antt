-- `along::stretch::Stretch::back` meets its contract. Assumes nothing.
use native.Mathlib.Omega.{arith}
use Rattle.kept.proofs.Indexed.{points_one}
use Rattle.along.proofs.stretch.Stretch.back.Goals as goal

pub returns-clause-points : goal.returns-clause-points
returns-clause-points c =
    let k = c.args.k in
    rw (c.up_to.ensures.coords_value, c.up_to.ensures.first_value) (points_one k.points.coords.now k.points.first.0 (omega (arith, k.within)))
