-- `stipeharbor::stipeharbor_widen` meets its contract. Assumes nothing.
use Rattle.stipeharbor.proofs.Passing.{listed}
use Rattle.stipeharbor.proofs.stipeharbor_widen.Goals as goal

pub returns : goal.returns
returns c = listed _ _ _ _ c.widen.ensures _ c.from-l.ensures _ c.put_over.ensures
