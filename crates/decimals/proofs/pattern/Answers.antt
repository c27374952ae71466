-- `decimals::pattern` meets its contract. Assumes nothing.
use native.Mathlib.Omega.{arith}
use Rattle.decimals.proofs.Millionths.{topped, first, second}
use Rattle.decimals.proofs.pattern.Goals as goal

pub returns-then-t-lt17592186044416000000 : goal.returns-then-t-lt17592186044416000000
returns-then-t-lt17592186044416000000 c = let s = topped c.args.n c.requires (omega arith) in first _ _ _ _ s c.if-t-lt17592186044416000000.true c.rounded.ensures.0

pub returns : goal.returns
returns c = let s = topped c.args.n c.requires (omega arith) in second _ _ _ _ s c.if-t-lt17592186044416000000.false c.rounded-2.ensures.0
