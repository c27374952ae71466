-- `dashed::draw_next` meets its contract. Assumes nothing.
use native.Mathlib.Omega.{arith}
use Rattle.dashed.proofs.Drawing.{part_fits, part_few, part_draws}
use Rattle.dashed.proofs.draw_next.Goals.{After-next_vertex}
use Rattle.dashed.proofs.draw_next.Goals as goal

pub draw_dash-d-requires : goal.draw_dash-d-requires
draw_dash-d-requires c =
    record { trail_fits = c.requires.trail_fits; detail_bound = c.requires.detail_bound; fits = part_fits c.args.pass c.args.r _ _ _ c.args.trail c.args.k c.place_of-a.ensures c.place_of-b.ensures c.place_of-c.ensures c.next_vertex.ensures c.requires.fits }

pub overflow_add-place : goal.overflow_add-place
overflow_add-place c =
    omega (arith, part_few c.args.pass c.args.r _ _ _ c.args.trail c.args.k c.place_of-a.ensures c.place_of-b.ensures c.place_of-c.ensures c.next_vertex.ensures c.requires.fits c.draw_dash-d.ensures)

pub overflow_add-place-2 : goal.overflow_add-place-2
overflow_add-place-2 c =
    omega (arith, part_few c.args.pass c.args.r _ _ _ c.args.trail c.args.k c.place_of-a.ensures c.place_of-b.ensures c.place_of-c.ensures c.next_vertex.ensures c.requires.fits c.draw_dash-d.ensures)

pub returns : goal.returns
returns c =
    part_draws c.args.pass c.args.r _ _ _ c.args.trail c.args.k c.place_of-a.ensures c.place_of-b.ensures c.place_of-c.ensures c.next_vertex.ensures c.requires.fits c.draw_dash-d.ensures
