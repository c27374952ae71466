-- `stl::finite::is_finite_pattern` meets its contract. Assumes nothing.
use mathlib.Core.Path.{sym}
use Rattle.stl.proofs.Corner.{finite_is}
use Rattle.stl.proofs.finite.is_finite_pattern.Goals as goal

pub returns : goal.returns
returns c = sym (finite_is c.args.bits)
