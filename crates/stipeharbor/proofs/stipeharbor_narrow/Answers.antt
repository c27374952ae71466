-- `stipeharbor::stipeharbor_narrow` meets its contract. Assumes nothing.
use Rattle.stipeharbor.proofs.Passing.{listed}
use Rattle.stipeharbor.proofs.stipeharbor_narrow.Goals as goal

pub returns : goal.returns
returns c = listed _ _ _ _ c.narrow.ensures _ c.from-l.ensures _ c.put_over.ensures
