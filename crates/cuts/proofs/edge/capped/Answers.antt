-- `cuts::edge::capped` meets its contract. Assumes nothing.
use Rattle.cuts.proofs.Capping.{capped_min}
use Rattle.cuts.proofs.edge.capped.Goals as goal

pub returns : goal.returns
returns c = rw c.min.ensures (capped_min _)
