-- `dashed::draw_dashes` meets its contract. The plan: `Drawing` says how far the dashes have come, one dash a turn. Assumes nothing.
use borrow.Author.Rules.{rules}
use mathlib.Core.Path.{refl}
use Rattle.dashed.proofs.Drawing.{drawing_none, drawing_fits, fewer, drawing_turn, drawing_all}
use Rattle.dashed.proofs.draw_dashes.Goals as goal

pub loop-next-init : goal.loop-next-init
loop-next-init c = (drawing_none _ _ _ _ _ _ _ _ _ c.start_dashes-next.ensures.dashes c.start_dashes-next.ensures.fits, refl, refl, refl)

pub draw_next-d-requires : goal.draw_next-d-requires
draw_next-d-requires c =
    let s = rw c.in-Some.is at c.loop-next.invariant.0 in
    record { trail_fits = s.fits.fits; detail_bound = c.requires.ds_nonzero.2; fits = drawing_fits _ _ _ _ _ _ s c.requires.fits }

pub loop-next-smaller : goal.loop-next-smaller
loop-next-smaller c =
    let s = rw c.in-Some.is at c.loop-next.invariant.0 in
    rw c.in-Some.is (fewer _ _ _ _ _ _ s c.draw_next-d.ensures _ c.next_dash-next.ensures)

pub loop-next-preserved : goal.loop-next-preserved
loop-next-preserved c =
    let l = c.loop-next in
    let s = rw c.in-Some.is at l.invariant.0 in
    (drawing_turn _ _ _ _ _ _ s c.draw_next-d.ensures _ c.next_dash-next.ensures, search (rules, l.invariant.1), search (rules, l.invariant.2), search (rules, l.invariant.3))

pub returns : goal.returns
returns c = drawing_all _ _ _ _ _ (rw c.in_default.is at c.loop-next.invariant.0)
