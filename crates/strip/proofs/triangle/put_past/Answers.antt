-- `strip::triangle::put_past` meets its contract. The plan: those to the joint at the start and those within it in the part behind; there is room for both (`room`), and Writing's `two_writers` joins them. Assumes nothing.
use Prim.Native.Nat.{◌+◌, ◌*◌, ◌≤◌}
use native.Mathlib.Omega.{arith}
use lib.ListN.{length, length-append, length-take, length-drop}
use Rattle.strip.specs.Triangle.{between}
use Rattle.strip.proofs.Writing.{two_writers}
use Rattle.strip.proofs.triangle.put_past.Goals.{After-put_to-n}
use Rattle.strip.proofs.triangle.put_past.Goals as goal

-- both have room
room : (c : After-put_to-n) → let a = c.args in 3 * (c.put_to-n.result + length (between a.b a.a)) ≤ length a.t.now
room c = omega (arith, c.put_to-n.ensures.value, simp length-append at c.requires.a_in_bounds)

pub put_to-n-requires : goal.put_to-n-requires
put_to-n-requires c = record { b_in_bounds = omega (arith, simp length-append at c.requires.a_in_bounds); b_value = c.requires.b_value }

pub put_between-m-requires : goal.put_between-m-requires
put_between-m-requires c = simp (length-take, length-drop) (omega (arith, room (goal.at.put_between-m-requires c).After-put_to-n))

pub returns : goal.returns
returns c = let both = two_writers _ _ _ _ _ _ _ c.requires.a_in_bounds c.put_to-n.ensures.value c.put_to-n.ensures.t_after c.put_between-m.ensures.value c.put_between-m.ensures.t_after in record { value = both.0; t_after = both.1 }
