-- `stl_write::put::put_head` meets its contract. Assumes nothing.
use mathlib.Core.Path.{refl}
use native.Mathlib.Nat.{le_trans}
use lib.Dec.{lit≤}
use Rattle.lists.proofs.Parts.{behind}
use Rattle.stl_write.proofs.put.put_head.Goals as goal

pub returns : goal.returns
returns c =
    behind _ _ _ _ _ 80 refl (le_trans (lit≤ tt) c.requires) c.put_zeros.ensures
    c.put_word.ensures
