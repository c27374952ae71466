-- `cuts::check_cut_path` meets its contract. Assumes nothing.
use mathlib.Core.Path.{sym, ap}
use Rattle.refusals.specs.declared.Verdict.{Verdict}
use Rattle.std.proofs.lemmas.Result.{err_from_is_err_and}
use Rattle.path.proofs.Laws.{sound}
use Rattle.cuts.specs.Checked.{cut_checked_of}
use Rattle.cuts.proofs.Checked.{sound_paired, refused_first}
use Rattle.cuts.proofs.check_cut_path.Goals as goal

pub has_too_many_cuts-requires : goal.has_too_many_cuts-requires
has_too_many_cuts-requires c =
    let told = ap (λ (a : Verdict). a.number) (sym c.in_ok-check_path.ensures) in
    sound_paired _ _ (sound _ _ told)

pub returns-in_err-check_path : goal.returns-in_err-check_path
unfolding cut_checked_of
returns-in_err-check_path c =
    let p = err_from_is_err_and c.from_residual.result c.from_residual.ensures.1 in
    rw (p.1, p.2, ← c.in_err-check_path.ensures) (refused_first c.in_err-check_path.field-0.0 _)

pub returns-then-has_too_many_cuts : goal.returns-then-has_too_many_cuts
unfolding cut_checked_of
returns-then-has_too_many_cuts c = rw (← c.in_ok-check_path.ensures, ← c.has_too_many_cuts.ensures, c.if-has_too_many_cuts.true)

pub returns : goal.returns
unfolding cut_checked_of
returns c = rw (← c.in_ok-check_path.ensures, ← c.has_too_many_cuts.ensures, c.if-has_too_many_cuts.false)
