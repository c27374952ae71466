-- `stl_write::corners::facet_of` meets its contract. Assumes nothing.
use Rattle.stl.specs.Write.{facet_of}
use Rattle.stl_write.proofs.Fine.{there}
use Rattle.stl_write.proofs.corners.facet_of.Goals as goal

pub corner_of-requires : goal.corner_of-requires
corner_of-requires c = (there _ _ _ c.requires.1).0

pub corner_of-requires-2 : goal.corner_of-requires-2
corner_of-requires-2 c = (there _ _ _ c.requires.1).1

pub corner_of-requires-3 : goal.corner_of-requires-3
corner_of-requires-3 c = (there _ _ _ c.requires.1).2

pub returns : goal.returns
unfolding facet_of
returns c = rw (c.corner_of.ensures, c.corner_of-2.ensures, c.corner_of-3.ensures)
