-- `dashed::draw_dash` meets its contract. Assumes nothing.
use mathlib.Core.Bool.{true, false}
use mathlib.Core.Path.{◌≡◌, refl, sym, ◌∙◌}
use Rattle.std.specs.Prelude.{Option, Some, None, is_some}
use Rattle.endpoint.specs.declared.Endpoint.{Endpoint}
use Rattle.dashed.proofs.Drawing.{dash_fits, piece_is, dash_draws, dot_draws}
use Rattle.dashed.proofs.draw_dash.Goals as goal

found : (r : Option Endpoint) → is_some r ≡ true → (q : Endpoint) × (r ≡ Some q)
found (Some q) h = (q, refl)
found None h = absurd (cc)

missed : (r : Option Endpoint) → is_some r ≡ false → r ≡ None
missed (Some q) h = absurd (cc)
missed None h = refl

pub draw_line-requires : goal.draw_line-requires
draw_line-requires c =
    let e = rw (found c.next_point.result (sym c.is_some.ensures ∙ c.if-is_some.true)).1 at c.next_point.ensures in
    record { dash_fits = dash_fits c.args.pass c.args.r _ _ _ _ c.requires.trail_fits _ _ e; detail_bound = c.requires.detail_bound; fits = rw (piece_is c.args.pass c.args.r _ _ _ _ c.requires.trail_fits _ _ e c.args.base) at c.requires.fits }

pub returns-then-is_some : goal.returns-then-is_some
returns-then-is_some c =
    let e = rw (found c.next_point.result (sym c.is_some.ensures ∙ c.if-is_some.true)).1 at c.next_point.ensures in
    dash_draws c.args.pass c.args.r _ _ _ _ c.requires.trail_fits _ _ e c.draw_line.ensures

pub returns : goal.returns
returns c =
    let e = rw (missed c.next_point.result (sym c.is_some.ensures ∙ c.if-is_some.false)) at c.next_point.ensures in
    dot_draws c.args.pass c.args.r _ _ _ _ c.requires.trail_fits _ e c.args.base _
