-- `widths::widen` meets its contract. Assumes nothing.
use Prim.Native.Nat.{ℕ}
use mathlib.Core.Path.{ap, ◌∙◌}
use mathlib.Core.List.{List}
use Rattle.lists.specs.Over.{over}
use Rattle.widths.proofs.Copying.{map_same}
use Rattle.widths.proofs.Outcomes.{widen_short, widen_done}
use Rattle.widths.proofs.widen.Goals as goal

pub returns-then-wide-numbers : goal.returns-then-wide-numbers
returns-then-wide-numbers c = widen_short _ _ c.if-wide-numbers.true

pub returns : goal.returns
returns c = widen_done _ _ c.if-wide-numbers.false (c.put.ensures ∙ ap (λ (l : List ℕ). over l c.args.wide.now) (map_same c.args.numbers.now))
