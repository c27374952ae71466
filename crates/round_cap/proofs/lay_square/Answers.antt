-- `round_cap::lay_square` meets its contract. Assumes nothing.
use Rattle.round_cap.proofs.Writing.{square_room, square_passes}
use Rattle.round_cap.proofs.lay_square.Goals as goal

pub put_corners-requires : goal.put_corners-requires
put_corners-requires c =
    let room = square_room c.args.base c.args.e c.args.h c.args.q _ c.requires.fits in
    (room.0, room.1, c.requires.id_lt_id_limit)

pub put_cap_triangles-requires : goal.put_cap_triangles-requires
put_cap_triangles-requires c =
    let room = square_room c.args.base c.args.e c.args.h c.args.q _ c.requires.fits in
    (room.2, room.3)

pub returns : goal.returns
returns c =
    square_passes c.args.base c.args.e c.args.h c.args.q _ _ _ _ _ _ c.put_corners.ensures.v_after c.put_corners.ensures.src_after c.put_cap_triangles.ensures
