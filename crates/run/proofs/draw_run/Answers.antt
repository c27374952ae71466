-- `run::draw_run` meets its contract. The plan: a closed run's shape is that of the part that `kept_end` leaves, told once (`ended`); an open run's is that of all its points; `draw_kept` draws either. Assumes nothing.
use native.Mathlib.Omega.{arith}
use Prim.Native.Nat.{◌*◌, ◌/◌}
use mathlib.Core.Bool.{false}
use mathlib.Core.Path.{◌≡◌, refl}
use lib.Dec.{ltb}
use lib.ListN.{length, take}
use Rattle.kept.specs.Kept.{kept_points}
use Rattle.kept.specs.Points.{endpoints_of}
use Rattle.kept.specs.Held.{points_of}
use Rattle.run.specs.Run.{shape_of_kept, shape_of}
use Rattle.run.proofs.Whole.{no_points, nothing_drawn, open_shape, closed_shape, fits_as, draws_as}
use Rattle.run.proofs.draw_run.Goals.{After-kept_end-to}
use Rattle.run.proofs.draw_run.Goals as goal

ended : (c : After-kept_end-to) → let a = c.args in shape_of a.pass.stroke a.closed (points_of a.p)
    ≡ shape_of_kept a.pass.stroke a.closed (ltb 1 (length a.p.coords.now / 2)) (kept_points a.pass.stroke.near false (endpoints_of a.p.first.0 (take (2 * c.kept_end-to.result) a.p.coords.now)))
ended c = closed_shape c.args.pass.stroke c.if-closed.true refl (omega (arith, c.if-p-lt2.false)) c.kept_end-to.ensures

pub returns-then-p-lt2 : goal.returns-then-p-lt2
returns-then-p-lt2 c =
    let a = c.args in
    draws_as a.pass refl (no_points a.pass.stroke _ _ _ c.if-p-lt2.true) (nothing_drawn a.pass.stroke _ _)

pub draw_kept-requires-clause-draw_fits : goal.draw_kept-requires-clause-draw_fits
draw_kept-requires-clause-draw_fits c =
    rw (c.count.ensures, c.up_to.ensures.coords_value, c.up_to.ensures.first_value)
    (fits_as c.args.pass refl (ended (goal.at.draw_kept-requires-clause-draw_fits c).After-kept_end-to) c.requires)

pub returns-then-closed : goal.returns-then-closed
returns-then-closed c =
    draws_as c.args.pass refl (ended (goal.at.returns-then-closed c).After-kept_end-to)
    (rw (c.count.ensures, c.up_to.ensures.coords_value, c.up_to.ensures.first_value) at c.draw_kept.ensures)

pub draw_kept-requires-2-clause-draw_fits : goal.draw_kept-requires-2-clause-draw_fits
draw_kept-requires-2-clause-draw_fits c =
    rw c.count.ensures (fits_as c.args.pass refl (open_shape c.args.pass.stroke _ _ c.if-closed.false refl) c.requires)

pub returns : goal.returns
returns c =
    let a = c.args in
    draws_as a.pass refl (open_shape a.pass.stroke _ _ c.if-closed.false refl) (rw c.count.ensures at c.draw_kept-2.ensures)
