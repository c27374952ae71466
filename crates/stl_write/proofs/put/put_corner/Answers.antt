-- `stl_write::put::put_corner` meets its contract. Assumes nothing.
use native.Mathlib.Nat.{le_trans}
use lib.Dec.{lit≤}
use Rattle.lists.proofs.Parts.{behind}
use Rattle.stl.proofs.Corner.{corner_no_nan}
use Rattle.stl_write.proofs.Parts.{length_word, length_two, corner_parts}
use Rattle.stl_write.proofs.put.put_corner.Goals as goal

pub float_to_bits-p : goal.float_to_bits-p
float_to_bits-p c = (corner_no_nan _ c.requires.1).0

pub float_to_bits-p-2 : goal.float_to_bits-p-2
float_to_bits-p-2 c = (corner_no_nan _ c.requires.1).1

pub returns : goal.returns
returns c =
    let h = c.requires.0 in
    let e = behind _ _ _ _ _ 4 (length_word _) (le_trans (lit≤ tt) h) c.put_word.ensures
    c.put_word-2.ensures in
    rw (corner_parts c.args.p)
    (behind _ _ _ _ _ 8 (length_two _ _) (le_trans (lit≤ tt) h) e c.put_zeros.ensures)
