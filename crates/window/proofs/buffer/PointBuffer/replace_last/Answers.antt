-- `window::buffer::PointBuffer::replace_last` meets its contract, in an empty window and in any other. That the slots are three is
-- known of `self` as it is passed (`well_formed`). Assumes nothing.
use Prim.Native.Nat.{◌<◌}
use mathlib.Core.Path.{◌≡◌, refl, sym}
use mathlib.Core.List.{[]}
use native.Mathlib.Omega.{arith}
use lib.ListN.{length}
use Rattle.window.specs.Answer.{replaced_answer_of}
use Rattle.window.specs.Window.{items, last_replaced}
use Rattle.window.proofs.Laws.{length_zero, replaced_answer_of_some}
use Rattle.window.proofs.Slots.{replaced_last}
use Rattle.window.proofs.buffer.PointBuffer.replace_last.Goals as goal

pub returns-then-n-eq0 : goal.returns-then-n-eq0
unfolding replaced_answer_of last_replaced
returns-then-n-eq0 c =
    let w = c.args.self in
    let none : items w ≡ [] = length_zero (items w) (omega arith) in
    record { answer = rw none; after = rw none; untouched = λ _. refl }

pub returns : goal.returns
returns c =
    let w = c.args.self in
    let some : 0 < length (items w) = omega arith in
    let three = c.well_formed.0.1.1.0.1.0.1 in
    record {
      answer = sym (replaced_answer_of_some (items w) some);
      after = replaced_last w three c.args.e c.count-n.ensures c.slot-at.ensures (omega arith);
      untouched = λ e. absurd (let h = rw e at some in omega arith);
    }
