-- `stl_write::put::put_word` meets its contract. Assumes nothing.
use native.Mathlib.Omega.{arith}
use lib.ListN.{length-set}
use Rattle.lists.proofs.Laws.{over_four}
use Rattle.stl.specs.Bytes.{le32}
use Rattle.stl_write.proofs.put.put_word.Goals as goal

pub bounds-bytes-1 : goal.bounds-bytes-1
bounds-bytes-1 c = simp length-set (omega arith)

pub bounds-bytes-2 : goal.bounds-bytes-2
bounds-bytes-2 c = simp length-set (omega arith)

pub bounds-bytes-3 : goal.bounds-bytes-3
bounds-bytes-3 c = simp length-set (omega arith)

pub returns : goal.returns
unfolding le32
returns c = rw c.to_le_bytes-word.ensures (over_four _ _ _ _ _ c.requires)
