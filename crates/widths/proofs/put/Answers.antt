-- `widths::put` meets its contract: of the numbers, i are written over the list. Assumes nothing.
use mathlib.Core.Path.{◌≡◌, sym, ap, ◌∙◌}
use mathlib.Core.List.{map}
use lib.ListN.{get_or, length-map}
use Rattle.std.proofs.lemmas.List.{get_or-map}
use Rattle.lists.proofs.Laws.{over_none}
use Rattle.widths.proofs.Copying.{over_more}
use Rattle.widths.proofs.put.Goals as goal

pub loop-i-init : goal.loop-i-init
loop-i-init g c = sym (over_none _)

pub loop-i-preserved : goal.loop-i-preserved
loop-i-preserved g c =
    let xs = c.args.numbers.now in
    let n = c.index-numbers-i in
    let e : get_or (map g.made xs) c.loop-i.i c.convert.result ≡ c.convert.result =
    get_or-map g.made xs c.loop-i.i n.result c.convert.result c.loop-i-test.true ∙ ap g.made (sym n.is) ∙ sym (c.requires.1.1.1.1.1 n.result c.convert.result c.convert.ensures) in
    rw c.loop-i.invariant (over_more (map g.made xs) c.args.list.now c.loop-i.i c.convert.result (rw length-map c.loop-i-test.true) (rw length-map c.requires.1.1.1.0) e)
