-- `round_cap::tessellate_empty_round_cap` meets its contract. Assumes nothing.
use Rattle.round_cap.specs.Cap.{corners_from}
use Rattle.round_cap.proofs.Writing.{square_room, square_fits, rim_fits, cap_lays}
use Rattle.round_cap.proofs.tessellate_empty_round_cap.Goals as goal

pub corners_from-q-requires : goal.corners_from-q-requires
corners_from-q-requires c =
    (square_room c.args.base c.args.e c.args.h (corners_from c.args.base) _ (square_fits c.args.detail c.args.base c.args.e c.args.h c.requires.fits)).3

pub lay_square-k-requires : goal.lay_square-k-requires
lay_square-k-requires c =
    record { id_lt_id_limit = c.requires.id_lt_id_limit; fits = rw c.corners_from-q.ensures (square_fits c.args.detail c.args.base c.args.e c.args.h c.requires.fits) }

pub lay_rim-requires : goal.lay_rim-requires
lay_rim-requires c =
    let first = rw c.corners_from-q.ensures at c.lay_square-k.ensures in
    record { id_lt_id_limit = c.requires.id_lt_id_limit; weft_fits = rw c.corners_from-q.ensures (rim_fits c.args.detail c.args.base c.args.e c.args.h c.requires.fits first) }

pub returns : goal.returns
returns c =
    let first = rw c.corners_from-q.ensures at c.lay_square-k.ensures in
    let second = rw c.corners_from-q.ensures at c.lay_rim.ensures in
    cap_lays c.args.detail c.args.base c.args.e c.args.h first second
