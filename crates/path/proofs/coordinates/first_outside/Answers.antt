-- `path::coordinates::first_outside` meets its contract. Assumes nothing.
use mathlib.Core.Path.{sym, ◌∙◌}
use Rattle.path.proofs.Bounding.{all_within, first_by}
use Rattle.path.proofs.coordinates.first_outside.Goals as goal

pub returns-then-are_in_limits : goal.returns-then-are_in_limits
returns-then-are_in_limits c = all_within _ (sym c.are_in_limits.ensures ∙ c.if-are_in_limits.true)

pub returns : goal.returns
returns c = rw c.search.ensures (first_by _)
