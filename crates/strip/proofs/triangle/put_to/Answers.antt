-- `strip::triangle::put_to` meets its contract. Assumes nothing.
use mathlib.Core.Path.{refl, sym}
use native.Mathlib.Omega.{arith}
use Rattle.lists.specs.Over.{flat}
use Rattle.lists.proofs.Laws.{over_none}
use Rattle.strip.specs.Triangle.{both_of}
use Rattle.strip.proofs.Triangles.{between_same}
use Rattle.strip.proofs.triangle.put_to.Goals as goal

pub put_both-requires : goal.put_both-requires
unfolding both_of
put_both-requires c = omega (arith, rw (c.if-begun.true, c.requires.b_value c.if-begun.true) at c.requires.b_in_bounds)

pub returns-then-begun : goal.returns-then-begun
unfolding both_of
returns-then-begun c = record { value = rw (c.if-begun.true, c.requires.b_value c.if-begun.true) refl; t_after = rw (c.if-begun.true, c.requires.b_value c.if-begun.true) c.put_both.ensures }

pub returns-else-begun : goal.returns-else-begun
unfolding flat
returns-else-begun c = record { value = rw (c.if-begun.false, between_same c.args.b) refl; t_after = rw (c.if-begun.false, between_same c.args.b) (sym (over_none _)) }
