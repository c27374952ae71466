-- `stipeharbor::stipeharbor_tessellate` meets its contract. Assumes nothing.
use Rattle.stipeharbor.proofs.Passing.{is_tessellated}
use Rattle.stipeharbor.proofs.stipeharbor_tessellate.Goals as goal

pub returns : goal.returns
returns c = is_tessellated _ _ _ _ _ _ c.tessellate.ensures c.from-a.ensures c.put_over.ensures
