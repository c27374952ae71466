-- `lists::put_over` meets its contract. Assumes nothing.
use Rattle.std.proofs.Common.{◌≡◌, length}
use mathlib.Core.Path.{sym, ap, ◌∙◌}
use lib.ListN.{take}
use native.Mathlib.Omega.{arith}
use Rattle.lists.proofs.Laws.{over_none, length_over}
use Rattle.lists.proofs.Short.{over_more, over_full}
use Rattle.lists.proofs.put_over.Goals.{then-i-list, else-i-list}
use Rattle.lists.proofs.put_over.Goals as goal

pub loop-i-init : goal.loop-i-init
loop-i-init g c = sym (over_none _)

pub loop-i-preserved : goal.loop-i-preserved
loop-i-preserved g c =
    let vs = c.args.values.now in
    let xs = c.args.list.now in
    let i = c.loop-i.i in
    let n : length c.loop-i.list ≡ length xs = ap length c.loop-i.invariant ∙ length_over (take i vs) xs in
    elim c.if-i-list.branch [
      | then-i-list w ↦ rw (w.list-is, c.loop-i.invariant) (over_more vs xs i w.index-values-i.result c.loop-i-test.true (omega (arith, n, w.if-i-list.true)) (sym w.index-values-i.is))
      | else-i-list w ↦ rw (w.list-is, c.loop-i.invariant) (over_full vs xs i (omega (arith, n, w.if-i-list.false)))
    ]
