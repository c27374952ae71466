-- `widths::narrow` meets its contract. Assumes nothing.
use Prim.Native.Nat.{ℕ}
use mathlib.Core.Path.{sym, ap, ◌∙◌}
use mathlib.Core.List.{List}
use Rattle.lists.specs.Over.{over}
use Rattle.std.specs.Prelude.{None, Some}
use Rattle.widths.proofs.Copying.{first_where, map_same}
use Rattle.widths.proofs.Outcomes.{narrow_short, narrow_wide, narrow_done}
use Rattle.widths.proofs.narrow.Goals as goal

pub returns-then-narrow-numbers : goal.returns-then-narrow-numbers
returns-then-narrow-numbers c = narrow_short _ _ c.if-narrow-numbers.true

pub returns-in-Some : goal.returns-in-Some
returns-in-Some c =
    let h = first_where c.args.numbers.now (Some c.in-Some.i) (sym c.in-Some.is ∙ c.first_wide.ensures.first) in
    narrow_wide _ _ c.if-narrow-numbers.false h.0 h.1

pub returns : goal.returns
returns c =
    let h = first_where c.args.numbers.now None (sym c.in_default.is ∙ c.first_wide.ensures.first) in
    narrow_done _ _ c.if-narrow-numbers.false h (c.put.ensures ∙ ap (λ (l : List ℕ). over l c.args.narrow.now) (map_same c.args.numbers.now))
