-- `measure::measure` meets its contract. Assumes nothing.
use mathlib.Core.Path.{sym, ap}
use Rattle.std.proofs.lemmas.Result.{err_from_is_err_and}
use Rattle.refusals.specs.declared.Verdict.{Verdict}
use Rattle.cuts.proofs.Checked.{cut_sound}
use Rattle.measure.specs.Measure.{measured_of, measure_of}
use Rattle.measure.proofs.Judging.{measure_refused, counts_told}
use Rattle.measure.proofs.measure.Goals as goal

pub returns-in_err-stroke : goal.returns-in_err-stroke
unfolding measure_of
returns-in_err-stroke c =
    let p = err_from_is_err_and c.from_residual.result c.from_residual.ensures.1 in
    rw (p.1, p.2, ← c.in_err-stroke.ensures) (measure_refused c.in_err-stroke.field-0.0 _)

pub returns-in_err-check_cut_path : goal.returns-in_err-check_cut_path
unfolding measure_of measured_of
returns-in_err-check_cut_path c =
    let p = err_from_is_err_and c.from_residual-in_err-check_cut_path.result c.from_residual-in_err-check_cut_path.ensures.1 in
    rw (p.1, p.2, ← c.in_ok-stroke.ensures, ← c.in_err-check_cut_path.ensures) (measure_refused c.in_err-check_cut_path.field-0.0 _)

pub count_accepted-c-requires : goal.count_accepted-c-requires
count_accepted-c-requires c = cut_sound _ _ _ _ _ (ap (λ (a : Verdict). a.number) (sym c.in_ok-check_cut_path.ensures))

pub returns : goal.returns
unfolding measure_of measured_of
returns c = rw (← c.in_ok-stroke.ensures, ← c.in_ok-check_cut_path.ensures, c.from.ensures) (counts_told _ _ c.count_accepted-c.ensures.place)
