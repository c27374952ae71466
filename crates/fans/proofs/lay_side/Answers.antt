-- `fans::lay_side` meets its contract. Assumes nothing.
use mathlib.Core.Path.{sym, ◌∙◌}
use Rattle.pieces.proofs.Pieces.{puts_none}
use Rattle.fans.specs.Fans.{side_weft}
use Rattle.fans.proofs.lay_side.Goals as goal

pub lay_arc-requires : goal.lay_arc-requires
unfolding side_weft
lay_arc-requires c =
    rw (c.hub_of-hub.ensures, c.last_normal.ensures, c.vertex_after.ensures, c.first_normal.ensures, c.side_points-points.ensures) (rw (sym c.gets_arc.ensures ∙ c.if-gets_arc.true) at c.requires.weft_fits)

pub returns-then-gets_arc : goal.returns-then-gets_arc
unfolding side_weft
returns-then-gets_arc c =
    rw (sym c.gets_arc.ensures ∙ c.if-gets_arc.true) (rw (c.hub_of-hub.ensures, c.last_normal.ensures, c.vertex_after.ensures, c.first_normal.ensures, c.side_points-points.ensures) at c.lay_arc.ensures)

pub returns : goal.returns
unfolding side_weft
returns c = rw (sym c.gets_arc.ensures ∙ c.if-gets_arc.false) puts_none
