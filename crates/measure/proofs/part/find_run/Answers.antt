-- `measure::part::find_run` meets its contract. Assumes nothing.
use mathlib.Core.Path.{sym, ap, ◌∙◌}
use native.Mathlib.Omega.{arith}
use Rattle.std.proofs.lemmas.Result.{err_from_is_err_and}
use Rattle.refusals.specs.declared.Verdict.{Verdict}
use Rattle.cuts.proofs.Checked.{cut_sound}
use Rattle.mesh.proofs.Rooms.{sound_paired, counts_fit}
use Rattle.measure.specs.Part.{stroked_part_of, part_of}
use Rattle.measure.proofs.Judging.{part_refused, told_judged, told_judgeable}
use Rattle.measure.proofs.part.find_run.Goals as goal

pub returns-in_err-stroke : goal.returns-in_err-stroke
unfolding part_of
returns-in_err-stroke c =
    let p = err_from_is_err_and c.from_residual.result c.from_residual.ensures.1 in
    rw (p.1, p.2, ← c.in_err-stroke.ensures) (part_refused c.in_err-stroke.field-0.0 _)

pub returns-in_err-check_cut_path : goal.returns-in_err-check_cut_path
unfolding part_of stroked_part_of
returns-in_err-check_cut_path c =
    let p = err_from_is_err_and c.from_residual-in_err-check_cut_path.result c.from_residual-in_err-check_cut_path.ensures.1 in
    rw (p.1, p.2, ← c.in_ok-stroke.ensures, ← c.in_err-check_cut_path.ensures) (part_refused c.in_err-check_cut_path.field-0.0 _)

pub count_run-told-requires : goal.count_run-told-requires
count_run-told-requires c =
    let s = cut_sound _ _ _ _ _ (ap (λ (a : Verdict). a.number) (sym c.in_ok-check_cut_path.ensures)) in
    record { paired = sound_paired _ _ s.0; verbs_len_bound = omega (arith, s.0.few); cuts_few = s.1; fits = counts_fit _ _ _ _ s.0 s.1 _ }

pub judged-requires : goal.judged-requires
judged-requires c =
    let s = cut_sound _ _ _ _ _ (ap (λ (a : Verdict). a.number) (sym c.in_ok-check_cut_path.ensures)) in
    rw c.count_run-told.ensures (told_judgeable _ _ c.args.run _ _ s)

pub returns : goal.returns
unfolding part_of stroked_part_of
returns c =
    rw (← c.in_ok-stroke.ensures, ← c.in_ok-check_cut_path.ensures)
    (c.judged.ensures ∙ rw c.count_run-told.ensures (told_judged _ _ c.args.run _ _))
