-- `inspect::check` meets its contract. Assumes nothing.
use mathlib.Core.Path.{refl, sym, ◌∙◌}
use Rattle.std.specs.Prelude.{None, Some}
use Rattle.inspect.specs.Faults.{too_large, alike, unnamed}
use Rattle.inspect.proofs.Firsts.{place_tells, range_place}
use Rattle.inspect.proofs.Judging.{found, large_place, says_length, then_large, then_alike, then_unnamed, then_next}
use Rattle.inspect.proofs.check.Goals as goal

pub returns-then-list-ne0 : goal.returns-then-list-ne0
returns-then-list-ne0 c = says_length _ _ _ c.if-list-ne0.true

pub returns-in-Some : goal.returns-in-Some
returns-in-Some c =
    let h = place_tells (too_large c.args.count c.args.list.now) _ (Some c.in-Some.i) (sym c.in-Some.is ∙ c.first_large.ensures ∙ large_place _ _) in
    then_large _ _ _ _ c.if-list-ne0.false (found _ _ _ _ _ h.0 h.1)

pub returns-in-Some-first_alike : goal.returns-in-Some-first_alike
returns-in-Some-first_alike c =
    let small = place_tells (too_large c.args.count c.args.list.now) _ None (sym c.in_default.is ∙ c.first_large.ensures ∙ large_place _ _) in
    let h = place_tells (alike c.args.list.now) _ (Some c.in-Some-first_alike.t) (sym c.in-Some-first_alike.is ∙ c.first_alike.ensures ∙ range_place _ _) in
    then_large _ _ _ _ c.if-list-ne0.false (then_alike _ _ _ _ _ refl small (found _ _ _ _ _ h.0 h.1))

pub returns-in-Some-first_unnamed : goal.returns-in-Some-first_unnamed
returns-in-Some-first_unnamed c =
    let small = place_tells (too_large c.args.count c.args.list.now) _ None (sym c.in_default.is ∙ c.first_large.ensures ∙ large_place _ _) in
    let differ = place_tells (alike c.args.list.now) _ None (sym c.in_default-first_alike.is ∙ c.first_alike.ensures ∙ range_place _ _) in
    let h = place_tells (unnamed c.args.list.now) _ (Some c.in-Some-first_unnamed.v) (sym c.in-Some-first_unnamed.is ∙ c.first_unnamed.ensures ∙ range_place _ _) in
    then_large _ _ _ _ c.if-list-ne0.false (then_alike _ _ _ _ _ refl small (then_unnamed _ _ _ _ _ refl differ (found _ _ _ _ _ h.0 h.1)))

pub returns : goal.returns
returns c =
    let small = place_tells (too_large c.args.count c.args.list.now) _ None (sym c.in_default.is ∙ c.first_large.ensures ∙ large_place _ _) in
    let differ = place_tells (alike c.args.list.now) _ None (sym c.in_default-first_alike.is ∙ c.first_alike.ensures ∙ range_place _ _) in
    let named = place_tells (unnamed c.args.list.now) _ None (sym c.in_default-first_unnamed.is ∙ c.first_unnamed.ensures ∙ range_place _ _) in
    then_large _ _ _ _ c.if-list-ne0.false (then_alike _ _ _ _ _ refl small (then_unnamed _ _ _ _ _ refl differ (then_next _ _ _ _ refl named)))
