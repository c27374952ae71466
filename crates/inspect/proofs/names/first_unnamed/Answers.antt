-- `inspect::names::first_unnamed` meets its contract. Every vertex before the part is named. Assumes nothing.
use mathlib.Core.Path.{sym, ◌∙◌}
use native.Mathlib.Omega.{arith}
use Rattle.inspect.specs.Faults.{unnamed}
use Rattle.inspect.proofs.Firsts.{clear_none, place_none, range_place, first_part, clear_part}
use Rattle.inspect.proofs.names.first_unnamed.Goals as goal

pub loop-base-init : goal.loop-base-init
loop-base-init c = (omega arith, clear_none _)

pub overflow_add-result : goal.overflow_add-result
overflow_add-result c =
    let h = first_part (unnamed c.args.list.now) c.loop-base.base c.min-n.result c.loop-base.invariant.1 c.in-Some.k c.args.count (omega arith) (sym c.in-Some.is ∙ c.first_unnamed_from.ensures) in
    omega (arith, h.0)

pub returns-in-Some : goal.returns-in-Some
returns-in-Some c = (first_part (unnamed c.args.list.now) c.loop-base.base c.min-n.result c.loop-base.invariant.1 c.in-Some.k c.args.count (omega arith) (sym c.in-Some.is ∙ c.first_unnamed_from.ensures)).1

pub loop-base-preserved : goal.loop-base-preserved
loop-base-preserved c = (omega arith, clear_part (unnamed c.args.list.now) c.loop-base.base c.min-n.result c.loop-base.invariant.1 (sym c.in_default.is ∙ c.first_unnamed_from.ensures))

pub returns : goal.returns
returns c = place_none (unnamed c.args.list.now) c.args.count (λ k l. c.loop-base.invariant.1 k (omega arith)) ∙ sym (range_place _ _)
