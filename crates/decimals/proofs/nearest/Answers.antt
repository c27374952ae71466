-- `decimals::nearest` meets its contract. Assumes nothing.
use Rattle.root.proofs.Patterns.{no_nan_bits}
use Rattle.decimals.proofs.Millionths.{nothing, minus}
use Rattle.decimals.proofs.nearest.Goals as goal

pub returns-then-millionths-eq0 : goal.returns-then-millionths-eq0
returns-then-millionths-eq0 c = nothing c.args.minus _ c.if-millionths-eq0.true

pub float_from_bits-x : goal.float_from_bits-x
float_from_bits-x c = no_nan_bits _ c.pattern-x.ensures.finite

pub returns-then-minus : goal.returns-then-minus
returns-then-minus c = minus _ _ _ c.if-minus.true c.if-millionths-eq0.false c.pattern-x.ensures
