-- `stipeharbor::stipeharbor_stl_read` meets its contract. Assumes nothing.
use Rattle.stipeharbor.proofs.Passing.{stl_corners}
use Rattle.stipeharbor.proofs.stipeharbor_stl_read.Goals as goal

pub returns : goal.returns
returns c = stl_corners _ _ _ _ _ c.stl_read.ensures _ c.from-c.ensures _ c.put_over.ensures
