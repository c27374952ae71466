-- `stipeharbor::stipeharbor_read` meets its contract. Assumes nothing.
use Rattle.stipeharbor.proofs.Passing.{reads_out}
use Rattle.stipeharbor.proofs.stipeharbor_read.Goals as goal

pub returns : goal.returns
returns c = reads_out _ _ _ _ _ c.read.ensures _ c.from-a.ensures _ c.put_over.ensures
