-- `window::buffer::PointBuffer::push` meets its contract, with room and in a full window. That the slots are three is known of `self` as it is
-- passed (`well_formed`). Assumes nothing.
use Rattle.window.proofs.Slots.{pushed_room, pushed_full}
use Rattle.window.proofs.buffer.PointBuffer.push.Goals as goal

pub returns-then-n-lt3 : goal.returns-then-n-lt3
returns-then-n-lt3 c =
    let three = c.well_formed.0.1.1.0.1.0.1 in
    pushed_room c.args.self three c.args.e c.count-n.ensures c.slot-at.ensures c.if-n-lt3.true

pub returns-else-n-lt3 : goal.returns-else-n-lt3
returns-else-n-lt3 c =
    let three = c.well_formed.0.1.1.0.1.0.1 in
    pushed_full c.args.self three c.args.e c.count-n.ensures c.slot-at.ensures c.slot.ensures
    c.if-n-lt3.false
