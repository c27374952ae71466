-- `inspect::attached::is_loose` meets its contract. The search goes back from the triangle before; what is left to ask stays the same question. Assumes nothing.
use mathlib.Core.Path.{◌≡◌}
use Rattle.inspect.specs.Faults.{touches}
use Rattle.inspect.specs.First.{some}
use Rattle.inspect.proofs.attached.is_loose.Given as goal

abbrev pub invariant-loop-s : goal.invariant-loop-s
invariant-loop-s l = some (touches l.list l.t) l.t ≡ some (touches l.list l.t) l.s
