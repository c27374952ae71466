-- `reader::pass::put_at` meets its contract. Assumes nothing.
use Rattle.reader.proofs.Putting.{put_clamped}
use Rattle.reader.proofs.pass.put_at.Goals as goal

pub returns : goal.returns
returns c =
    record { verbs_after = put_clamped _ _ _ _ _ c.min-i.ensures c.put_event.ensures.verbs_after; coords_after = put_clamped _ _ _ _ _ c.min-j.ensures c.put_event.ensures.coords_after }
