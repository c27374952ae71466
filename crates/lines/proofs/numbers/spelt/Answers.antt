-- `lines::numbers::spelt` meets its contract. The loop's invariant is `Spelling`. Assumes nothing.
use native.Mathlib.Omega.{arith}
use Rattle.lines.proofs.Spelling.{spelling_room, spelling_fits, spelling_goes, spelling_stops, spelling_ends}
use Rattle.lines.proofs.numbers.spelt.Goals as goal

pub overflow_mul-value : goal.overflow_mul-value
overflow_mul-value c = omega (arith, spelling_room c.loop-b.invariant c.requires.0 (omega arith))

pub returns-in_err-value : goal.returns-in_err-value
returns-in_err-value c = rw c.from_residual.ensures (spelling_stops c.loop-b.invariant c.loop-b-test.true c.in_err-value.ensures)

pub overflow_add-value : goal.overflow_add-value
overflow_add-value c = omega (arith, spelling_fits c.loop-b.invariant c.requires.0 c.in_ok-value.ensures.1 (omega arith))

pub loop-b-preserved : goal.loop-b-preserved
loop-b-preserved c = spelling_goes c.loop-b.invariant c.requires.0 c.loop-b-test.true c.in_ok-value.ensures.0 c.in_ok-value.ensures.1

pub returns : goal.returns
returns c = spelling_ends c.loop-b.invariant c.loop-b-test.false
