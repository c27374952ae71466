-- `window::buffer::PointBuffer::count` meets its contract. That the slots are three is known of `self` as it is passed (`well_formed`). Assumes nothing.
use native.Mathlib.Omega.{arith}
use Rattle.window.proofs.Slots.{length_held}
use Rattle.window.proofs.buffer.PointBuffer.count.Goals as goal

pub returns : goal.returns
returns c = omega (arith, length_held c.args.self c.well_formed.0.1.1.0.1.0.1)
