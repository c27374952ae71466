-- `path::verbs::scan_verbs` meets its contract. Assumes nothing.
use mathlib.Core.Path.{◌≡◌, sym, ◌∙◌}
use native.Mathlib.Omega.{arith}
use lib.ListN.{length}
use Rattle.path.proofs.Placing.{one_named, one_at_most, passed_none, passed_one, passed_stop, passed_all}
use Rattle.path.proofs.verbs.scan_verbs.Goals as goal

pub loop-place-init : goal.loop-place-init
loop-place-init c = passed_none _

pub returns-then-not-is_placed : goal.returns-then-not-is_placed
returns-then-not-is_placed c =
    passed_stop _ _ _ _ c.loop-place.invariant c.loop-place-test.true (sym c.is_placed.ensures ∙ c.if-not-is_placed.true)

pub overflow_add-points : goal.overflow_add-points
overflow_add-points c = grind (arith, c.from-points.ensures, c.loop-place.invariant.few, one_at_most)

pub loop-place-preserved : goal.loop-place-preserved
loop-place-preserved c =
    rw (c.from-points.ensures, c.names_point-inside.ensures, one_named)
    (passed_one _ _ _ _ c.loop-place.invariant c.loop-place-test.true (sym c.is_placed.ensures ∙ c.if-not-is_placed.false))

pub returns : goal.returns
returns c = let e : c.loop-place.place ≡ length c.args.verbs.now = omega arith in rw (← e) (passed_all _ _ _ _ c.loop-place.invariant c.loop-place-test.false)
