-- `inspect::names::first_unnamed` meets its contract. Every vertex before the part is named. Assumes nothing.
use Prim.Native.Nat.{◌≤◌, ◌-◌}
use Rattle.inspect.specs.Faults.{unnamed}
use Rattle.inspect.proofs.Firsts.{Clear}
use Rattle.inspect.proofs.names.first_unnamed.Given as goal

abbrev pub invariant-loop-base : goal.invariant-loop-base
invariant-loop-base l = (l.base ≤ l.count) × Clear (unnamed l.list) l.base

abbrev pub decreases-loop-base : goal.decreases-loop-base
decreases-loop-base l = l.count - l.base
