-- `arc::lay_middle` meets its contract. Assumes nothing.
use Rattle.arc.proofs.Writing.{middle_passes}
use Rattle.arc.proofs.lay_middle.Goals as goal

pub returns : goal.returns
returns c =
    let put = c.put_middle in
    middle_passes c.args.k c.args.hub c.args.a c.args.b c.args.mid c.requires.vertex_value _ _ _ _ _ _ c.requires.fits put.ensures.v_after put.ensures.src_after put.ensures.t_after
