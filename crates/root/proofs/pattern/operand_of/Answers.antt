-- `root::pattern::operand_of` meets its contract. Assumes nothing.
use Rattle.root.proofs.Exponents.{pattern_scaled}
use Rattle.root.proofs.pattern.operand_of.Goals as goal

pub returns : goal.returns
returns c = pattern_scaled c.args.b c.exponent_of-k.result c.exponent_of-k.ensures c.requires.0 c.requires.1
