-- `stl_write::stl_write` meets its contract. Assumes nothing.
use Prim.Native.Nat.{◌/◌}
use mathlib.Core.Path.{refl, sym, ◌∙◌}
use native.Mathlib.Omega.{arith}
use lib.ListN.{length}
use Rattle.std.specs.Prelude.{None, Some}
use Rattle.stl.specs.Write.{fine_triangle}
use Rattle.stl.proofs.Each.{first_where, all_fine}
use Rattle.stl.proofs.Outcomes.{long_enough, write_short, write_bad, write_done}
use Rattle.stl_write.proofs.stl_write.Goals as goal

pub returns-then-is_too_short : goal.returns-then-is_too_short
returns-then-is_too_short c = write_short _ _ _ (sym c.is_too_short.ensures ∙ c.if-is_too_short.true)

pub returns-in-Some : goal.returns-in-Some
returns-in-Some c =
    let h = first_where (fine_triangle c.args.vertices.now c.args.triangles.now) (length c.args.triangles.now / 3) (Some c.in-Some.k) (sym c.in-Some.is ∙ c.first_refused.ensures) in
    write_bad _ _ _ (sym c.is_too_short.ensures ∙ c.if-is_too_short.false) _ h.0 h.1

pub put_file-requires : goal.put_file-requires
put_file-requires c =
    let r = long_enough _ _ (sym c.is_too_short.ensures ∙ c.if-is_too_short.false) in
    let h = first_where (fine_triangle c.args.vertices.now c.args.triangles.now) (length c.args.triangles.now / 3) None (sym c.in_default.is ∙ c.first_refused.ensures) in
    record { counted = r.0; room = r.1; fine = all_fine _ _ _ refl h }

pub overflow_mul-result : goal.overflow_mul-result
overflow_mul-result c =
    let r = (long_enough (length c.args.triangles.now / 3) (length c.args.bytes.now) (sym c.is_too_short.ensures ∙ c.if-is_too_short.false)).0 in
    omega arith

pub overflow_add-result : goal.overflow_add-result
overflow_add-result c =
    let r = (long_enough (length c.args.triangles.now / 3) (length c.args.bytes.now) (sym c.is_too_short.ensures ∙ c.if-is_too_short.false)).0 in
    omega arith

pub returns : goal.returns
returns c =
    let h = first_where (fine_triangle c.args.vertices.now c.args.triangles.now) (length c.args.triangles.now / 3) None (sym c.in_default.is ∙ c.first_refused.ensures) in
    write_done _ _ _ (sym c.is_too_short.ensures ∙ c.if-is_too_short.false) _ refl h _ c.put_file.ensures
