-- `bends::lay_end` meets its contract. Assumes nothing.
use Rattle.pieces.proofs.Pieces.{puts_none}
use Rattle.bends.specs.Bend.{end_weft}
use Rattle.bends.proofs.lay_end.Goals.{else-b-via-then-b+else-r, else-b-via-else-b}
use Rattle.bends.proofs.lay_end.Goals as goal

pub lay_end_fan-requires : goal.lay_end_fan-requires
unfolding end_weft
lay_end_fan-requires c = record { id_lt_id_limit = c.requires.id_lt_id_limit; weft_fits = rw (c.if-b.true, c.if-r.true) at c.requires.weft_fits }

pub returns-then-r : goal.returns-then-r
unfolding end_weft
returns-then-r c = rw (c.if-b.true, c.if-r.true) c.lay_end_fan.ensures

pub returns-else-b : goal.returns-else-b
unfolding end_weft
returns-else-b c =
    elim c.else-b.branch [
      | else-b-via-then-b+else-r w ↦ rw (w.if-b.true, w.if-r.false) puts_none
      | else-b-via-else-b w ↦ rw w.if-b.false puts_none
    ]
