-- `lines::prints::put_digits` meets its contract. The loop's invariant is `Putting`: what was to be put is still to be put. Assumes nothing.
use Rattle.lines.proofs.Placing.{Putting}
use Rattle.lines.proofs.prints.put_digits.Given as goal

abbrev pub invariant-loop-i : goal.invariant-loop-i
invariant-loop-i l = Putting l.base l.k l.n l.initial.out l.out l.i l.rest
