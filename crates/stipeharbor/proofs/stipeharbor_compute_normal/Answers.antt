-- `stipeharbor::stipeharbor_compute_normal` meets its contract. Assumes nothing.
use Rattle.stipeharbor.proofs.Passing.{normal_out}
use Rattle.stipeharbor.proofs.stipeharbor_compute_normal.Goals as goal

pub returns : goal.returns
returns c = normal_out _ _ _ _ _ c.compute_normal.result c.compute_normal.ensures _ c.from-a.ensures _ c.put_over.ensures
