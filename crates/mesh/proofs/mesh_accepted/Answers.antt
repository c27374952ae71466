-- `mesh::mesh_accepted` meets its contract. Assumes nothing.
use mathlib.Core.Path.{refl, sym, ◌∙◌}
use borrow.Author.Tests.{eqb-true}
use lib.ListN.{length}
use Rattle.std.proofs.lemmas.Result.{err_from_is_err_and}
use Rattle.options.proofs.Levels.{level_few}
use Rattle.mesh.proofs.Rooms.{smaller_min, sound_paired, plenty_fits, plenty_drawn, mesh_fits, no_mesh, is_drawn, is_refused}
use Rattle.mesh.proofs.mesh_accepted.Goals as goal

pub is_plenty-requires : goal.is_plenty-requires
is_plenty-requires c = rw c.level_of.ensures (level_few c.args.stroke)

pub draw_runs-d-requires : goal.draw_runs-d-requires
draw_runs-d-requires c =
    let pre = c.requires in
    let none = eqb-true (length c.args.lengths.now) 0 (sym c.is_empty.ensures ∙ c.if-is_empty.true) in
    let q = rw (c.level_of.ensures, c.min.ensures, smaller_min) at (c.is_plenty.ensures c.if-is_plenty.true) in
    record { paired = sound_paired _ _ pre.0; cuts_few = pre.1; fits = plenty_fits _ _ _ _ pre.0 pre.1 _ none q }

pub returns-then-is_empty : goal.returns-then-is_empty
returns-then-is_empty c =
    let pre = c.requires in
    let none = eqb-true (length c.args.lengths.now) 0 (sym c.is_empty.ensures ∙ c.if-is_empty.true) in
    let q = rw (c.level_of.ensures, c.min.ensures, smaller_min) at (c.is_plenty.ensures c.if-is_plenty.true) in
    rw c.from.ensures (plenty_drawn _ _ _ _ pre.0 pre.1 _ none q c.draw_runs-d.ensures)

pub count_accepted-c-requires : goal.count_accepted-c-requires
count_accepted-c-requires c = c.requires

pub returns-in_err-size : goal.returns-in_err-size
returns-in_err-size c =
    let pre = c.requires in
    let p = err_from_is_err_and c.from_residual.result c.from_residual.ensures.1 in
    let j = rw (c.min.ensures, smaller_min) at c.in_err-size.ensures in
    rw (p.1, p.2) (is_refused _ _ _ _ pre.0 pre.1 _ c.count_accepted-c.ensures _ j (no_mesh c.in_err-size.field-0.0))

pub draw_runs-requires : goal.draw_runs-requires
draw_runs-requires c =
    let pre = c.requires in
    let j = rw (c.min.ensures, smaller_min) at c.in_ok-size.ensures in
    record { paired = sound_paired _ _ pre.0; cuts_few = pre.1; fits = mesh_fits _ _ _ _ pre.0 pre.1 _ c.count_accepted-c.ensures _ j refl }

pub returns : goal.returns
returns c =
    let pre = c.requires in
    let j = rw (c.min.ensures, smaller_min) at c.in_ok-size.ensures in
    is_drawn _ _ _ _ pre.0 pre.1 _ c.count_accepted-c.ensures _ j refl c.draw_runs.ensures
