-- `along::pen::pass_behind` meets its contract. Assumes nothing.
use Rattle.along.proofs.Penned.{has_as, puts_as}
use Rattle.along.proofs.pen.pass_behind.Goals as goal

pub pass_stretch-requires : goal.pass_stretch-requires
pass_stretch-requires g c =
    let a = c.args in
    has_as g.P.Pen.laws a.pass a.ink a.w _ c.rest.ensures.sure c.rest.ensures.points c.requires

pub returns : goal.returns
returns g c =
    let a = c.args in
    puts_as g.P.Pen.laws a.pass a.ink a.w _ _ _ c.rest.ensures.sure c.rest.ensures.points c.pass_stretch.ensures
