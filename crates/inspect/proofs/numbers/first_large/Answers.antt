-- `inspect::numbers::first_large` meets its contract. Every number before the loop's is below the count. Assumes nothing.
use mathlib.Core.Path.{refl, sym, ◌∙◌}
use native.Mathlib.Omega.{arith}
use Rattle.inspect.proofs.Firsts.{clear_more, first_found, place_found, place_none}
use Rattle.inspect.proofs.Judging.{is_large_lem, not_large, large_place}
use Rattle.inspect.proofs.numbers.first_large.Goals as goal

pub returns-then-list-i : goal.returns-then-list-i
returns-then-list-i c = place_found _ _ _ (first_found _ _ _ c.loop-i-test.true c.loop-i.invariant (is_large_lem _ _ _ _ refl c.if-list-i.true)) c.loop-i-test.true ∙ sym (large_place _ _)

pub loop-i-preserved : goal.loop-i-preserved
loop-i-preserved c = clear_more _ _ c.loop-i.invariant (not_large _ _ _ _ refl c.if-list-i.false)

pub returns : goal.returns
returns c = place_none _ _ (λ k l. c.loop-i.invariant k (omega arith)) ∙ sym (large_place _ _)
