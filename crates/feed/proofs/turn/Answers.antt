-- `feed::turn` meets its contract. Assumes nothing.
use native.Mathlib.Omega.{arith}
use Rattle.feed.proofs.Feeding.{turn_far, turn_home, turn_end}
use Rattle.feed.proofs.turn.Goals as goal

pub returns-in-Some : goal.returns-in-Some
returns-in-Some c = let far = c.in-Some.ensures in turn_far _ _ _ _ _ far.0 _ _ far.1 c.at.ensures c.turned.ensures

pub returns-in-None : goal.returns-in-None
returns-in-None c = rw c.count.ensures (turn_home _ _ _ _ _ c.in-None.ensures _ _ (omega arith) c.if-f.true c.at-in-None.ensures c.turned-in-None.ensures)

pub returns-in-None-2 : goal.returns-in-None-2
returns-in-None-2 c = turn_end _ _ _ _ _ c.in-None.ensures (omega arith) c.if-f.false
