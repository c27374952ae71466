-- `woven::close_round` meets its contract. Assumes nothing.
use native.Mathlib.Omega.{arith}
use Rattle.lists.proofs.Parts.{put_part}
use Rattle.woven.proofs.close_round.Goals as goal

pub returns-then-write : goal.returns-then-write
returns-then-write c = λ w. put_part _ _ _ _ (omega (arith, (c.requires w).room)) c.put_close.ensures.t_after
