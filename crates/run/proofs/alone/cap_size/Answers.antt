-- `run::alone::cap_size` meets its contract. Assumes nothing.
use mathlib.Core.Path.{sym, ◌∙◌}
use native.Mathlib.Omega.{arith}
use Rattle.options.proofs.Levels.{level_few}
use Rattle.run.proofs.Whole.{cap_shifted}
use Rattle.run.proofs.alone.cap_size.Goals as goal

pub overflow_shl-result : goal.overflow_shl-result
overflow_shl-result c = omega (arith, c.level_of.ensures, level_few c.args.o)

pub returns-then-rounds_caps : goal.returns-then-rounds_caps
returns-then-rounds_caps c = rw (c.level_of.ensures, sym c.rounds_caps.ensures ∙ c.if-rounds_caps.true) (cap_shifted c.args.o)
