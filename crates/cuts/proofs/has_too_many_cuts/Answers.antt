-- `cuts::has_too_many_cuts` meets its contract. Assumes nothing.
use Rattle.cuts.specs.Cuts.{has_too_many_cuts}
use Rattle.cuts.proofs.Capping.{capped_over}
use Rattle.cuts.proofs.has_too_many_cuts.Goals as goal

pub returns-then-not-is_empty : goal.returns-then-not-is_empty
unfolding has_too_many_cuts
returns-then-not-is_empty c = rw (← c.is_empty.ensures, c.if-not-is_empty.true, c.count_cuts.ensures) (capped_over _)

pub returns-else-not-is_empty : goal.returns-else-not-is_empty
unfolding has_too_many_cuts
returns-else-not-is_empty c = rw (← c.is_empty.ensures, c.if-not-is_empty.false)
