-- `bends::bend_size` meets its contract. Assumes nothing.
use native.Mathlib.Omega.{arith}
use mathlib.Core.Bool.{◌&&◌}
use mathlib.Core.Path.{◌≡◌, ◌∙◌}
use Rattle.bends.proofs.Sizes.{arc_few, fan_few}
use Rattle.bends.specs.Bend.{bend_size}
use Rattle.bends.proofs.bend_size.Goals.{then-b, else-b}
use Rattle.bends.proofs.bend_size.Goals as goal

pub overflow_add-result : goal.overflow_add-result
overflow_add-result c =
    let k = c.args.r.detail in
    let x = arc_few c.gets_arc.result k c.requires in
    let y = arc_few c.gets_arc-2.result k c.requires in
    let z = fan_few c.args.due k c.requires in
    omega (arith, c.arc_size-p.ensures, c.arc_size-n.ensures, c.fan_size.ensures)

pub overflow_add-result-2 : goal.overflow_add-result-2
overflow_add-result-2 c =
    let k = c.args.r.detail in
    let x = arc_few c.gets_arc.result k c.requires in
    let y = arc_few c.gets_arc-2.result k c.requires in
    let z = fan_few c.args.due k c.requires in
    omega (arith, c.arc_size-p.ensures, c.arc_size-n.ensures, c.fan_size.ensures)

pub overflow_add-result-3 : goal.overflow_add-result-3
overflow_add-result-3 c =
    let k = c.args.r.detail in
    let x = arc_few c.gets_arc.result k c.requires in
    let y = arc_few c.gets_arc-2.result k c.requires in
    let z = fan_few c.args.due k c.requires in
    let u = fan_few c.if-b.fan_size k c.requires in
    omega (arith, u, c.arc_size-p.ensures, c.arc_size-n.ensures, c.fan_size.ensures, c.fan_size-2.ensures)

pub returns : goal.returns
unfolding bend_size
returns c =
    let at_end : c.if-b.fan_size ≡ (c.args.b.end && c.args.r.caps) = elim c.if-b.branch [ then-b w ↦ w.fan_size-is ∙ rw w.if-b.true | else-b w ↦ w.fan_size-is ∙ rw w.if-b.false ] in
    rw (c.fan_size-2.ensures, at_end, c.fan_size.ensures, c.arc_size-n.ensures, c.gets_arc-2.ensures, c.arc_size-p.ensures, c.gets_arc.ensures)
