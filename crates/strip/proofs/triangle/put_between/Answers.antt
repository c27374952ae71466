-- `strip::triangle::put_between` meets its contract. The plan: the one on the positive side at the start and the one on the negative side in the part behind; there is room for both (`room`), and
-- Writing's `two_writers` joins them. Assumes nothing.
use Prim.Native.Nat.{◌+◌, ◌*◌, ◌≤◌}
use native.Mathlib.Omega.{arith}
use lib.ListN.{length, length-append, length-take, length-drop}
use Rattle.strip.specs.Triangle.{on_negative, between}
use Rattle.strip.proofs.Writing.{two_writers}
use Rattle.strip.proofs.triangle.put_between.Goals.{After-put_different-n}
use Rattle.strip.proofs.triangle.put_between.Goals as goal

-- both have room
room : (c : After-put_different-n) → let a = c.args in 3 * (c.put_different-n.result + length (on_negative a.s a.e)) ≤ length a.t.now
unfolding between
room c = omega (arith, c.put_different-n.ensures.value, simp length-append at c.requires)

pub put_different-n-requires : goal.put_different-n-requires
unfolding between
put_different-n-requires c = omega (arith, simp length-append at c.requires)

pub overflow_mul-n : goal.overflow_mul-n
overflow_mul-n c = omega (arith, room (goal.at.overflow_mul-n c).After-put_different-n)

pub offset_bounds-t-n : goal.offset_bounds-t-n
offset_bounds-t-n c = omega (arith, room (goal.at.offset_bounds-t-n c).After-put_different-n)

pub slice_bounds-put_different-count : goal.slice_bounds-put_different-count
slice_bounds-put_different-count c = omega (arith, room (goal.at.slice_bounds-put_different-count c).After-put_different-n)

pub slice_bounds-put_different-start : goal.slice_bounds-put_different-start
slice_bounds-put_different-start c = omega (arith, room (goal.at.slice_bounds-put_different-start c).After-put_different-n)

pub put_different-m-requires : goal.put_different-m-requires
put_different-m-requires c = simp (length-take, length-drop) (omega (arith, room (goal.at.put_different-m-requires c).After-put_different-n))

pub overflow_add-result : goal.overflow_add-result
overflow_add-result c = omega (arith, room (goal.at.overflow_add-result c).After-put_different-n)

pub returns : goal.returns
unfolding between
returns c = let both = two_writers _ _ _ _ _ _ _ c.requires c.put_different-n.ensures.value c.put_different-n.ensures.t_after c.put_different-m.ensures.value c.put_different-m.ensures.t_after in record { value = both.0; t_after = both.1 }
