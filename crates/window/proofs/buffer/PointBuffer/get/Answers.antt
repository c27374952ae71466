-- `window::buffer::PointBuffer::get` meets its contract. That the slots are three is known of `self` as it is passed (`well_formed`). Assumes nothing.
use Prim.Native.Nat.{◌<◌}
use mathlib.Core.Path.{sym}
use native.Mathlib.Omega.{arith}
use lib.ListN.{length}
use Rattle.window.specs.Window.{items}
use Rattle.window.proofs.Laws.{got_of_found, got_of_past}
use Rattle.window.proofs.Slots.{get_d_held}
use Rattle.window.proofs.buffer.PointBuffer.get.Goals as goal

pub returns-then-i-count : goal.returns-then-i-count
returns-then-i-count c =
    let w = c.args.self in
    let h : c.args.i < length (items w) = omega arith in
    let three = c.well_formed.0.1.1.0.1.0.1 in
    rw (← get_d_held w three _ c.args.i c.slot.result h c.slot.ensures)
    (sym (got_of_found (items w) c.args.i _ h))

pub returns : goal.returns
returns c =
    sym (got_of_past (items c.args.self) c.args.i (omega arith))
