-- `stipeharbor::stipeharbor_root` meets its contract. Assumes nothing.
use Rattle.stipeharbor.proofs.Passing.{roots_out}
use Rattle.stipeharbor.proofs.stipeharbor_root.Goals as goal

pub returns : goal.returns
returns c = roots_out _ _ c.root.result c.root.ensures _ c.from-rooted.ensures _ c.put_over.ensures
