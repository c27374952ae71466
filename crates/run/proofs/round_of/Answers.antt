-- `run::round_of` meets its contract. Assumes nothing.
use Rattle.run.specs.Run.{round_of}
use Rattle.run.proofs.round_of.Goals as goal

pub returns : goal.returns
unfolding round_of
returns c = rw (c.level_of.ensures, c.rounds_caps.ensures, c.rounds_joins.ensures)
