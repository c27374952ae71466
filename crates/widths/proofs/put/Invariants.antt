-- `widths::put` meets its contract: of the numbers, i are written over the list. Assumes nothing.
use mathlib.Core.Path.{◌≡◌}
use mathlib.Core.List.{map}
use lib.ListN.{take}
use Rattle.lists.specs.Over.{over}
use Rattle.widths.proofs.put.Given as goal

abbrev pub invariant-loop-i : goal.invariant-loop-i
invariant-loop-i g l = l.list ≡ over (take l.i (map g.made l.numbers)) l.initial.list
