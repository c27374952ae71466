-- `stl_read::words::word` meets its contract. Assumes nothing.
use native.Mathlib.Omega.{arith}
use Rattle.stl.specs.Bytes.{word_at}
use Rattle.stl_read.proofs.words.word.Goals as goal

pub returns : goal.returns
unfolding word_at
returns c = omega (arith, c.from_le_bytes.ensures)
