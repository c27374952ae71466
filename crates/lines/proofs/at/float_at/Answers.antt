-- `lines::at::float_at` meets its contract. Assumes nothing.
use mathlib.Core.Path.{sym}
use native.Mathlib.Omega.{arith}
use Rattle.lines.proofs.Behind.{puts_part}
use Rattle.lines.proofs.Placing.{digits_length}
use Rattle.lines.proofs.at.float_at.Goals as goal

pub returns : goal.returns
returns c = record { puts = puts_part _ _ _ _ _ (omega arith) (sym (digits_length 16 8 _)) c.put_float.ensures; upper_bound = omega arith }
