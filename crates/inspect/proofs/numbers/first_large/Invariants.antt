-- `inspect::numbers::first_large` meets its contract. Every number before the loop's is below the count. Assumes nothing.
use Rattle.inspect.specs.Faults.{too_large}
use Rattle.inspect.proofs.Firsts.{Clear}
use Rattle.inspect.proofs.numbers.first_large.Given as goal

abbrev pub invariant-loop-i : goal.invariant-loop-i
invariant-loop-i l = Clear (too_large l.count l.list) l.i
