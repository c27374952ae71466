-- `page::put_stroked` meets its contract. Assumes nothing.
use borrow.Author.Tests.{eq-eqb, ne_eqb}
use mathlib.Core.Path.{sym}
use native.Mathlib.Omega.{arith}
use Prim.Native.Nat.{◌*◌}
use lib.Seq.{length-take-le}
use Rattle.page.proofs.Cut.{short_cut, page_cut}
use Rattle.page.proofs.Laws.{mesh_within, mesh_short, mesh_refused, mesh_drawn}
use Rattle.page.proofs.put_stroked.Goals as goal

pub returns-then-a-ne0 : goal.returns-then-a-ne0
returns-then-a-ne0 c =
    let o = c.options in
    let t = c.tessellate in
    let a = c.from-a in
    let p = c.put_refused in
    record { puts = mesh_refused (rw o.ensures at t.ensures) a.ensures (ne_eqb a.result.number 0 c.if-a-ne0.true) p.ensures.puts; upper_bound = p.ensures.upper_bound }

pub overflow_mul-vertices : goal.overflow_mul-vertices
overflow_mul-vertices c =
    let w = mesh_within _ _ (rw c.options.ensures at c.tessellate.ensures) c.from-a.ensures c.if-a-ne0.false in
    omega (arith, w.0)

pub slice_bounds-vertices-end : goal.slice_bounds-vertices-end
slice_bounds-vertices-end c =
    let w = mesh_within _ _ (rw c.options.ensures at c.tessellate.ensures) c.from-a.ensures c.if-a-ne0.false in
    omega (arith, w.0, c.tessellate.auto.vertices)

pub slice_bounds-put_mesh-end : goal.slice_bounds-put_mesh-end
slice_bounds-put_mesh-end c =
    let w = mesh_within _ _ (rw c.options.ensures at c.tessellate.ensures) c.from-a.ensures c.if-a-ne0.false in
    sym (length-take-le (5 * c.from-a.result.vertices) c.tessellate.new.vertices (omega (arith, w.0, c.tessellate.auto.vertices)))

pub overflow_mul-triangles : goal.overflow_mul-triangles
overflow_mul-triangles c =
    let w = mesh_within _ _ (rw c.options.ensures at c.tessellate.ensures) c.from-a.ensures c.if-a-ne0.false in
    omega (arith, w.1)

pub slice_bounds-triangles-end : goal.slice_bounds-triangles-end
slice_bounds-triangles-end c =
    let w = mesh_within _ _ (rw c.options.ensures at c.tessellate.ensures) c.from-a.ensures c.if-a-ne0.false in
    omega (arith, w.1, c.tessellate.auto.triangles)

pub slice_bounds-put_mesh-end-2 : goal.slice_bounds-put_mesh-end-2
slice_bounds-put_mesh-end-2 c =
    let w = mesh_within _ _ (rw c.options.ensures at c.tessellate.ensures) c.from-a.ensures c.if-a-ne0.false in
    sym (length-take-le (3 * c.from-a.result.triangles) c.tessellate.new.triangles (omega (arith, w.1, c.tessellate.auto.triangles)))

pub put_mesh-requires-clause-are_short : goal.put_mesh-requires-clause-are_short
put_mesh-requires-clause-are_short c =
    let w = mesh_within _ _ (rw c.options.ensures at c.tessellate.ensures) c.from-a.ensures c.if-a-ne0.false in
    short_cut (3 * c.from-a.result.triangles) c.tessellate.new.triangles (mesh_short _ _ (rw c.options.ensures at c.tessellate.ensures) c.from-a.ensures w.0)

pub returns-clause-puts : goal.returns-clause-puts
returns-clause-puts c =
    let t = c.tessellate in
    let a = c.from-a in
    let w = mesh_within _ _ (rw c.options.ensures at c.tessellate.ensures) c.from-a.ensures c.if-a-ne0.false in
    let cut = page_cut a.result.vertices a.result.triangles t.new.vertices t.new.triangles (omega (arith, w.0, t.auto.vertices)) (omega (arith, w.1, t.auto.triangles)) in
    mesh_drawn (rw c.options.ensures at t.ensures) a.ensures (eq-eqb a.result.number 0 c.if-a-ne0.false) (rw cut at c.put_mesh.ensures.puts)
