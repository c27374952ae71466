-- `stipeharbor::measuring::stipeharbor_measure` meets its contract. Assumes nothing.
use mathlib.Core.Path.{◌∙◌}
use Rattle.stipeharbor.proofs.Measures.{is_measured}
use Rattle.stipeharbor.proofs.measuring.stipeharbor_measure.Goals as goal

pub returns : goal.returns
returns c = is_measured _ _ _ _ _ (c.measured_answer_of-a.ensures ∙ c.measure.ensures) c.put_over.ensures
