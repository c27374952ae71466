-- `run::alone::draw_alone` meets its contract. Assumes nothing.
use native.Mathlib.Omega.{arith}
use mathlib.Core.Path.{sym, ◌∙◌}
use Rattle.run.proofs.Whole.{cap_some, nothing_drawn, cap_fits, cap_drawn}
use Rattle.run.proofs.alone.draw_alone.Goals as goal

pub overflow_sub-result : goal.overflow_sub-result
overflow_sub-result c = omega (arith, c.cap_size-n.ensures, cap_some c.args.pass.stroke)

pub lay_empty_cap-requires-clause-draw_fits : goal.lay_empty_cap-requires-clause-draw_fits
lay_empty_cap-requires-clause-draw_fits c =
    cap_fits c.args.pass.stroke _ _ c.args.p (rw (sym c.draws_cap.ensures ∙ c.if-draws_cap.true) at c.requires.draw_fits)

pub returns-then-draws_cap : goal.returns-then-draws_cap
returns-then-draws_cap c =
    let a = c.args in
    rw (sym c.draws_cap.ensures ∙ c.if-draws_cap.true) (cap_drawn a.pass.stroke _ _ a.p c.cap_size-n.ensures c.lay_empty_cap.ensures)

pub returns : goal.returns
returns c = rw (sym c.draws_cap.ensures ∙ c.if-draws_cap.false) (nothing_drawn c.args.pass.stroke _ _)
