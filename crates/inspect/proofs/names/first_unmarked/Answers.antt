-- `inspect::names::first_unmarked` meets its contract. Assumes nothing.
use mathlib.Core.Path.{◌∙◌}
use Rattle.inspect.proofs.Marking.{blank_is}
use Rattle.inspect.proofs.names.first_unmarked.Goals as goal

pub returns : goal.returns
returns g c = c.first_blank.ensures ∙ blank_is _ _ _ _ _ c.requires.n_in_bounds c.mark.ensures
