-- `mesh::tessellate` meets its contract. Assumes nothing.
use mathlib.Core.Path.{sym, ap}
use Rattle.std.proofs.lemmas.Result.{err_from_is_err_and}
use Rattle.refusals.specs.declared.Verdict.{Verdict}
use Rattle.cuts.proofs.Checked.{cut_sound}
use Rattle.mesh.proofs.Rooms.{refused_first}
use Rattle.mesh.specs.Mesh.{stroked_of, outcome_of}
use Rattle.mesh.proofs.tessellate.Goals as goal

pub returns-in_err-stroke : goal.returns-in_err-stroke
unfolding outcome_of
returns-in_err-stroke c =
    let p = err_from_is_err_and c.from_residual.result c.from_residual.ensures.1 in
    rw (p.1, p.2, ← c.in_err-stroke.ensures) (refused_first _ c.in_err-stroke.field-0.0 _)

pub returns-in_err-check_cut_path : goal.returns-in_err-check_cut_path
unfolding outcome_of stroked_of
returns-in_err-check_cut_path c =
    let p = err_from_is_err_and c.from_residual-in_err-check_cut_path.result c.from_residual-in_err-check_cut_path.ensures.1 in
    rw (p.1, p.2, ← c.in_ok-stroke.ensures, ← c.in_err-check_cut_path.ensures) (refused_first _ c.in_err-check_cut_path.field-0.0 _)

pub mesh_accepted-requires : goal.mesh_accepted-requires
mesh_accepted-requires c = cut_sound _ _ _ _ _ (ap (λ (a : Verdict). a.number) (sym c.in_ok-check_cut_path.ensures))

pub returns : goal.returns
unfolding outcome_of stroked_of
returns c = rw (← c.in_ok-stroke.ensures, ← c.in_ok-check_cut_path.ensures) c.mesh_accepted.ensures
