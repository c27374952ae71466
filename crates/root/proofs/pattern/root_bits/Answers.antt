-- `root::pattern::root_bits` meets its contract. Assumes nothing.
use Rattle.root.proofs.Answering.{bits_root_shifted}
use Rattle.root.proofs.pattern.root_bits.Goals as goal

pub returns : goal.returns
returns c = bits_root_shifted _ _ _ _ c.operand_of-x.ensures c.nearest-s.ensures
