-- `widths::first_wide` meets its contract. Every number before the loop's is one that a u16 holds. Assumes nothing.
use native.Mathlib.Omega.{arith}
use borrow.Author.Tests.{lt-ltb, ltb-false}
use Rattle.std.proofs.lemmas.List.{get_or_default}
use Rattle.widths.specs.Widths.{narrow_most}
use Rattle.widths.proofs.Copying.{found_at, found_none}
use Rattle.widths.proofs.first_wide.Goals as goal

pub returns-then-numbers-i-gt-NARROW_MOST-clause-first :
    goal.returns-then-numbers-i-gt-NARROW_MOST-clause-first
returns-then-numbers-i-gt-NARROW_MOST-clause-first c = found_at _ _ _ 0 c.loop-i.invariant c.loop-i-test.true (lt-ltb narrow_most _ (omega (arith, c.if-numbers-i-gt-NARROW_MOST.true)))

pub returns-clause-first : goal.returns-clause-first
returns-clause-first c = found_none _ _ _ 0 c.loop-i.invariant c.loop-i.auto.i-end c.loop-i-test.false

pub returns-clause-fits : goal.returns-clause-fits
returns-clause-fits c = λ e k d h. let w = ltb-false _ _ (c.loop-i.invariant k (omega (arith, h))) in rw (get_or_default c.args.numbers.now k d 0 h) (omega (arith, w))
