-- `lists::put_over` meets its contract: of the values, i are written over the list. Assumes nothing.
use mathlib.Core.Path.{◌≡◌}
use lib.ListN.{take}
use Rattle.lists.specs.Over.{over}
use Rattle.lists.proofs.put_over.Given as goal

abbrev pub invariant-loop-i : goal.invariant-loop-i
invariant-loop-i g l = l.list ≡ over (take l.i l.values) l.initial.list
