-- `runs::cut::kept_to` meets its contract. Assumes nothing.
use Rattle.runs.proofs.Cutting.{kept_closed}
use Rattle.runs.proofs.cut.kept_to.Goals as goal

pub returns-then-closed : goal.returns-then-closed
returns-then-closed c = rw c.if-closed.true (kept_closed _ _ _ _ c.requires c.kept_end.ensures)
