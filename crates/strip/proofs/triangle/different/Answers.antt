-- `strip::triangle::different` meets its contract. Assumes nothing.
use borrow.Author.Tests.{ne_eqb}
use native.Mathlib.Omega.{arith}
use Rattle.std.proofs.lemmas.Bool.Decides.{nat_tests}
use Rattle.strip.specs.Triangle.{different}
use Rattle.strip.proofs.triangle.different.Goals.{then-a-b, else-a-b}
use Rattle.strip.proofs.triangle.different.Goals as goal

pub returns-then-b-c : goal.returns-then-b-c
unfolding different
returns-then-b-c c = rw (ne_eqb _ _ c.if-b-c.true.0, ne_eqb _ _ c.if-b-c.true.1)

pub returns-else-b-c : goal.returns-else-b-c
unfolding different
returns-else-b-c c =
    elim c.if-a-b.branch [ then-a-b w ↦ grind (arith, nat_tests) | else-a-b w ↦ grind (arith, nat_tests) ]
