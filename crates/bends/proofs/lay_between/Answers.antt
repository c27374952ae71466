-- `bends::lay_between` meets its contract. Assumes nothing.
use native.Mathlib.Omega.{arith}
use lib.ListN.{length-take, length-drop}
use Rattle.bends.proofs.Writing.{faced}
use Rattle.bends.proofs.lay_between.Goals as goal

pub put_between-n-requires : goal.put_between-n-requires
put_between-n-requires c = simp (length-take, length-drop) (omega (arith, c.requires.room))

pub returns : goal.returns
returns c = faced _ _ _ _ _ c.requires c.put_between-n.ensures.value c.put_between-n.ensures.t_after
