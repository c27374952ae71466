-- `run::draw_kept` meets its contract. Assumes nothing.
use mathlib.Core.Path.{refl}
use Rattle.run.proofs.Whole.{alone_shape, far_shape, fits_as, draws_as}
use Rattle.run.proofs.draw_kept.Goals as goal

pub draw_alone-requires-clause-draw_fits : goal.draw_alone-requires-clause-draw_fits
draw_alone-requires-clause-draw_fits c =
    let alone = alone_shape c.args.pass.stroke _ c.requires.in_bounds c.first_far-second.ensures _ (rw c.count.ensures at c.if-count-second.true) c.at.ensures in
    fits_as c.args.pass refl alone c.requires.draw_fits

pub returns-then-count-second : goal.returns-then-count-second
returns-then-count-second c =
    let alone = alone_shape c.args.pass.stroke _ c.requires.in_bounds c.first_far-second.ensures _ (rw c.count.ensures at c.if-count-second.true) c.at.ensures in
    draws_as c.args.pass refl alone c.draw_alone.ensures

pub draw_strip-requires : goal.draw_strip-requires
draw_strip-requires c =
    let far = far_shape c.args.pass.stroke c.args.ends.lines c.requires.in_bounds c.first_far-second.ensures c.args.ends.closed (rw c.count.ensures at c.if-count-second.false) in
    fits_as c.args.pass refl far c.requires.draw_fits

pub returns : goal.returns
returns c =
    let far = far_shape c.args.pass.stroke c.args.ends.lines c.requires.in_bounds c.first_far-second.ensures c.args.ends.closed (rw c.count.ensures at c.if-count-second.false) in
    draws_as c.args.pass refl far c.draw_strip.ensures
