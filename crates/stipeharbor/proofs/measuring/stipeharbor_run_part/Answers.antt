-- `stipeharbor::measuring::stipeharbor_run_part` meets its contract. Assumes nothing.
use mathlib.Core.Path.{◌∙◌}
use Rattle.stipeharbor.proofs.Measures.{is_part}
use Rattle.stipeharbor.proofs.measuring.stipeharbor_run_part.Goals as goal

pub returns : goal.returns
returns c = is_part _ _ _ _ _ _ _ (c.from-a.ensures ∙ c.find_run.ensures) c.put_over.ensures
