-- `cuts::run_cuts::visit` meets its contract. Assumes nothing.
use mathlib.Core.Path.{sym, ◌∙◌}
use Rattle.cuts.proofs.Counting.{near_visited, far_visited}
use Rattle.cuts.proofs.run_cuts.visit.Goals as goal

pub returns-then-is_near : goal.returns-then-is_near
returns-then-is_near c = near_visited _ _ _ _ c.requires.1 (sym c.is_near.ensures ∙ c.if-is_near.true)

pub count_next-requires : goal.count_next-requires
count_next-requires c = c.requires

pub returns : goal.returns
returns c = far_visited _ _ _ _ _ (sym c.is_near.ensures ∙ c.if-is_near.false) c.count_next.ensures
