-- `lines::floats::of_bits` meets its contract: the two tests tell the one NaN, any other, and the numbers. Assumes nothing.
use Rattle.root.proofs.Bits.{no_nan_bits}
use Rattle.lines.proofs.Patterns.{by_nan, by_other_nan, by_number}
use Rattle.lines.proofs.floats.of_bits.Goals as goal

pub returns-then-bits-eq2143289344 : goal.returns-then-bits-eq2143289344
returns-then-bits-eq2143289344 c = by_nan c.args.bits c.if-bits-eq2143289344.true

pub returns-then-bits-gt2139095040 : goal.returns-then-bits-gt2139095040
returns-then-bits-gt2139095040 c = by_other_nan c.args.bits c.if-bits-eq2143289344.false c.if-bits-gt2139095040.true

pub float_from_bits-result : goal.float_from_bits-result
float_from_bits-result c = rw (no_nan_bits c.args.bits c.if-bits-gt2139095040.false) tt

pub returns : goal.returns
returns c = by_number c.args.bits c.if-bits-gt2139095040.false
