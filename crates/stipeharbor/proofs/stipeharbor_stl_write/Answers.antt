-- `stipeharbor::stipeharbor_stl_write` meets its contract. Assumes nothing.
use Rattle.stipeharbor.proofs.Passing.{stl_written}
use Rattle.stipeharbor.proofs.stipeharbor_stl_write.Goals as goal

pub returns : goal.returns
returns c = stl_written _ _ _ _ _ _ c.stl_write.ensures _ c.from-w.ensures _ c.put_over.ensures
