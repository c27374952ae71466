-- `stl_read::facets::corner_at` meets its contract. Assumes nothing.
use Rattle.stl_read.proofs.Fine.{corner_patterns}
use Rattle.stl_read.proofs.facets.corner_at.Goals as goal

pub float_from_bits-result : goal.float_from_bits-result
float_from_bits-result c = rw c.word.ensures (corner_patterns _ _ c.requires.1).0

pub float_from_bits-result-2 : goal.float_from_bits-result-2
float_from_bits-result-2 c = rw c.word-2.ensures (corner_patterns _ _ c.requires.1).1

pub returns : goal.returns
returns c = rw (c.word.ensures, c.word-2.ensures)
