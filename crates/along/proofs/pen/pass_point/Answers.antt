-- `along::pen::pass_point` meets its contract. Assumes nothing.
use Rattle.along.proofs.Penned.{own_none, own_one}
use Rattle.along.proofs.pen.pass_point.Goals as goal

pub returns-then-is_dropped : goal.returns-then-is_dropped
returns-then-is_dropped g c =
    let m = g.P.Pen in
    let a = c.args in
    let d = rw (c.is_dropped.ensures, c.last.ensures) at c.if-is_dropped.true in
    rw (own_none a.sure a.pass.stroke.near (m.reached a.w) a.p d) (m.laws.none a.pass a.ink a.w _)

pub pass_kept-requires : goal.pass_kept-requires
pass_kept-requires g c =
    let a = c.args in
    let d = rw (c.is_dropped.ensures, c.last.ensures) at c.if-is_dropped.false in
    rw (own_one a.sure a.pass.stroke.near (g.P.Pen.reached a.w) a.p d) at c.requires

pub returns : goal.returns
returns g c =
    let a = c.args in
    let d = rw (c.is_dropped.ensures, c.last.ensures) at c.if-is_dropped.false in
    rw (own_one a.sure a.pass.stroke.near (g.P.Pen.reached a.w) a.p d) c.pass_kept.ensures
