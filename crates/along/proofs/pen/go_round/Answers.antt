-- `along::pen::go_round` meets its contract. Assumes nothing.
use mathlib.Core.List.{[], ◌∷◌}
use Rattle.kept.specs.Held.{p0_of, p1_of}
use Rattle.along.proofs.Penned.{has_as, puts_as}
use Rattle.along.proofs.pen.go_round.Goals as goal

pub pass_stretch-home-requires : goal.pass_stretch-home-requires
pass_stretch-home-requires g c =
    let a = c.args in
    let m = g.P.Pen in
    has_as m.laws a.pass a.ink a.w _ c.back.ensures.sure c.back.ensures.points (m.laws.front a.pass a.ink (p0_of a.k ∷ []) (p1_of a.k ∷ []) a.w _ c.requires)

pub pass_stretch-requires : goal.pass_stretch-requires
pass_stretch-requires g c =
    let a = c.args in
    let m = g.P.Pen in
    let home = puts_as m.laws a.pass a.ink a.w _ _ _ c.back.ensures.sure c.back.ensures.points c.pass_stretch-home.ensures in
    has_as m.laws a.pass a.ink _ _ c.on.ensures.sure c.on.ensures.points (m.laws.back a.pass a.ink (p0_of a.k ∷ []) (p1_of a.k ∷ []) a.w _ _ _ c.requires home)

pub returns : goal.returns
returns g c =
    let a = c.args in
    let m = g.P.Pen in
    let home = puts_as m.laws a.pass a.ink a.w _ _ _ c.back.ensures.sure c.back.ensures.points c.pass_stretch-home.ensures in
    let on = puts_as m.laws a.pass a.ink _ _ _ _ c.on.ensures.sure c.on.ensures.points c.pass_stretch.ensures in
    m.laws.both a.pass a.ink (p0_of a.k ∷ []) (p1_of a.k ∷ []) a.w _ _ _ _ _ home on
