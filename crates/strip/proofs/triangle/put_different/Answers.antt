-- `strip::triangle::put_different` meets its contract. Assumes nothing.
use mathlib.Core.Path.{refl, sym, ap, ◌∙◌}
use native.Mathlib.Omega.{arith}
use lib.ListN.{length}
use Rattle.lists.proofs.Laws.{over_none}
use Rattle.vertices.specs.Vertex.{triangle_of}
use Rattle.lists.specs.Over.{flat}
use Rattle.strip.proofs.Triangles.{tri_some, tri_none}
use Rattle.strip.proofs.triangle.put_different.Goals as goal

pub put_triangle-requires : goal.put_triangle-requires
put_triangle-requires c =
    let whole = tri_some _ _ _ (sym c.different.ensures ∙ c.if-different.true) in
    omega (arith, ap length whole, c.requires)

pub returns-then-different : goal.returns-then-different
unfolding flat triangle_of
returns-then-different c =
    let whole = tri_some _ _ _ (sym c.different.ensures ∙ c.if-different.true) in
    record { value = rw whole refl; t_after = rw whole c.put_triangle.ensures }

pub returns-else-different : goal.returns-else-different
unfolding flat
returns-else-different c =
    let none = tri_none _ _ _ (sym c.different.ensures ∙ c.if-different.false) in
    record { value = rw none refl; t_after = rw none (sym (over_none _)) }
