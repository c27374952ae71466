-- `stl_read::facets::put_corners` meets its contract. Assumes nothing.
use Rattle.lists.proofs.Laws.{over_six}
use Rattle.stl_read.proofs.facets.put_corners.Goals as goal

pub returns : goal.returns
returns c = over_six _ _ _ _ _ _ _ c.requires
