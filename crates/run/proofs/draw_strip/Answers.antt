-- `run::draw_strip` meets its contract. Assumes nothing.
use mathlib.Core.Path.{refl, sym, ◌∙◌}
use Rattle.kept.specs.Held.{run_of}
use Rattle.along.proofs.Held.{held_within}
use Rattle.woven.proofs.Runs.{ids, arcs_fit, drawn}
use Rattle.run.proofs.Whole.{strip_needs, shape_fits, shape_draws, round_shallow, weave_fits, weave_draws, rounds, closed_drawn, open_drawn}
use Rattle.run.proofs.draw_strip.Goals as goal

pub pass_strip-s-requires : goal.pass_strip-s-requires
pass_strip-s-requires c = strip_needs c.args.pass c.args.closed _ (held_within c.args.k) c.requires

pub weave_behind-requires : goal.weave_behind-requires
weave_behind-requires c =
    let a = c.args in
    let o = a.pass.stroke in
    let kept = run_of o.near a.k in
    let e = c.round_of-r.ensures in
    let f = weave_fits a.pass a.closed e _ _ _ (shape_fits a.pass refl (sym c.is_round.ensures ∙ c.if-is_round.true) kept c.requires) in
    arcs_fit a.closed o _ _ kept f (ids o.near (held_within a.k)) c.pass_strip-s.ensures (round_shallow o e)

pub returns-then-is_round : goal.returns-then-is_round
returns-then-is_round c =
    let a = c.args in
    let o = a.pass.stroke in
    let kept = run_of o.near a.k in
    let e = c.round_of-r.ensures in
    let round = sym c.is_round.ensures ∙ c.if-is_round.true in
    let f = weave_fits a.pass a.closed e _ _ _ (shape_fits a.pass refl round kept c.requires) in
    let d = drawn a.closed o _ _ kept f (ids o.near (held_within a.k)) c.pass_strip-s.ensures c.weave_behind.ensures in
    shape_draws a.pass refl round kept (weave_draws a.pass a.closed e _ _ _ d)

pub close_round-requires : goal.close_round-requires
close_round-requires c =
    let a = c.args in
    let o = a.pass.stroke in
    let kept = run_of o.near a.k in
    let plain = sym c.is_round.ensures ∙ c.if-is_round.false in
    rounds o _ _ _ (shape_fits a.pass c.if-closed.true plain kept c.requires) (rw c.if-closed.true at c.pass_strip-s.ensures)

pub returns-then-closed : goal.returns-then-closed
returns-then-closed c =
    let a = c.args in
    let o = a.pass.stroke in
    let kept = run_of o.near a.k in
    let plain = sym c.is_round.ensures ∙ c.if-is_round.false in
    let f = shape_fits a.pass c.if-closed.true plain kept c.requires in
    shape_draws a.pass c.if-closed.true plain kept (closed_drawn o _ _ _ f (rw c.if-closed.true at c.pass_strip-s.ensures) _ c.close_round.ensures)

pub returns : goal.returns
returns c =
    let a = c.args in
    let o = a.pass.stroke in
    let kept = run_of o.near a.k in
    let plain = sym c.is_round.ensures ∙ c.if-is_round.false in
    shape_draws a.pass c.if-closed.false plain kept (open_drawn o _ _ (rw c.if-closed.false at c.pass_strip-s.ensures))
