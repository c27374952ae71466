-- `stl::finite::is_zero_pattern` meets its contract. Assumes nothing.
use mathlib.Core.Path.{sym}
use Rattle.stl.proofs.Corner.{zero_is}
use Rattle.stl.proofs.finite.is_zero_pattern.Goals as goal

pub returns : goal.returns
returns c = sym (zero_is c.args.bits)
