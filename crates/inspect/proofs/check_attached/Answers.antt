-- `inspect::check_attached` meets its contract. Assumes nothing.
use mathlib.Core.Path.{refl, sym, ◌∙◌}
use Rattle.std.specs.Prelude.{None, Some}
use Rattle.std.proofs.lemmas.Result.{err_from_is_err_and}
use Rattle.inspect.specs.Faults.{loose}
use Rattle.inspect.proofs.Firsts.{place_tells, range_place}
use Rattle.inspect.proofs.Judging.{is_faulty, faulty_same, sound_then, found, none}
use Rattle.inspect.proofs.check_attached.Goals as goal

pub returns-in_err-check : goal.returns-in_err-check
returns-in_err-check c =
    let p = err_from_is_err_and c.from_residual.result c.from_residual.ensures.1 in
    rw (p.1, p.2) (faulty_same _ _ _ _ c.in_err-check.ensures (is_faulty _))

pub returns-in-Some : goal.returns-in-Some
returns-in-Some c =
    let h = place_tells (loose c.args.list.now) _ (Some c.in-Some.t) (sym c.in-Some.is ∙ c.first_loose.ensures ∙ range_place _ _) in
    found _ _ _ _ _ h.0 h.1 ∙ sound_then _ _ _ _ c.in_ok-check.ensures refl

pub returns-in-None : goal.returns-in-None
returns-in-None c =
    let h = place_tells (loose c.args.list.now) _ None (sym c.in-None.is ∙ c.first_loose.ensures ∙ range_place _ _) in
    sym (none _ _ _ _ _ refl h) ∙ sound_then _ _ _ _ c.in_ok-check.ensures refl
