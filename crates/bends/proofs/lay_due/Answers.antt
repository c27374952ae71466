-- `bends::lay_due` meets its contract. Assumes nothing.
use Rattle.pieces.proofs.Pieces.{puts_none}
use Rattle.bends.specs.Bend.{due_weft}
use Rattle.joints.specs.Joint.{data_of, cap_of, start_cap_of}
use Rattle.bends.proofs.lay_due.Goals as goal

pub lay_start_fan-requires : goal.lay_start_fan-requires
unfolding due_weft start_cap_of cap_of data_of
lay_start_fan-requires c =
    record { id_lt_id_limit = rw c.start_cap.ensures c.requires.id_lt_id_limit; weft_fits = rw (c.negated.ensures, c.start_cap.ensures) (rw c.if-w.true at c.requires.weft_fits) }

pub returns-then-w : goal.returns-then-w
unfolding due_weft
returns-then-w c =
    rw c.if-w.true (rw (c.negated.ensures, c.start_cap.ensures) at c.lay_start_fan.ensures)

pub returns-else-w : goal.returns-else-w
unfolding due_weft
returns-else-w c = rw c.if-w.false puts_none
