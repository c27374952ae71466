-- `measure::part::run_vertices` meets its contract. Assumes nothing.
use native.Mathlib.Omega.{arith}
use Rattle.std.proofs.lemmas.Result.{err_from_is_err_and}
use Rattle.measure.proofs.Judging.{told_within, told_refused, told_handed}
use Rattle.measure.proofs.part.run_vertices.Goals as goal

pub returns-in_err-part : goal.returns-in_err-part
returns-in_err-part c =
    let p = err_from_is_err_and c.from_residual.result c.from_residual.ensures.1 in
    rw (p.1, p.2) (told_refused _ _ _ _ _ c.args.vertices.now c.in_err-part.field-0.0 c.in_err-part.ensures)

pub overflow_add-result : goal.overflow_add-result
overflow_add-result c = let w = told_within _ _ _ _ _ c.args.vertices.now c.in_ok-part.ensures in omega (arith, w, c.well_formed.1.1.1.1.1.0)

pub offset_bounds-vertices-part : goal.offset_bounds-vertices-part
offset_bounds-vertices-part c = let w = told_within _ _ _ _ _ c.args.vertices.now c.in_ok-part.ensures in omega (arith, w, c.well_formed.1.1.1.1.1.0)

pub slice_bounds-result-end : goal.slice_bounds-result-end
slice_bounds-result-end c = let w = told_within _ _ _ _ _ c.args.vertices.now c.in_ok-part.ensures in omega (arith, w)

pub returns : goal.returns
returns c = told_handed _ _ _ _ _ c.args.vertices.now c.in_ok-part.ensures
