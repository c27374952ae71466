-- `stipeharbor::stipeharbor_check` meets its contract. Assumes nothing.
use mathlib.Core.Path.{◌∙◌}
use Rattle.stipeharbor.proofs.Passing.{checked_out}
use Rattle.stipeharbor.proofs.stipeharbor_check.Goals as goal

pub returns : goal.returns
returns c = checked_out _ _ _ (c.verdict_of-v.ensures ∙ c.check.ensures) _ c.put_over.ensures
