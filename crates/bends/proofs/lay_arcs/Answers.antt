-- `bends::lay_arcs` meets its contract. Assumes nothing.
use Rattle.fans.proofs.Wefts.{weft_front, weft_back, weft_both}
use Rattle.bends.specs.Bend.{arcs_weft}
use Rattle.bends.proofs.lay_arcs.Goals as goal

pub lay_side-p-requires : goal.lay_side-p-requires
unfolding arcs_weft
lay_side-p-requires c = record { first_bound = (c.requires.positive_bound.0, c.requires.positive_bound.2); weft_fits = weft_front _ _ c.requires.weft_fits }

pub lay_side-requires : goal.lay_side-requires
unfolding arcs_weft
lay_side-requires c = record { first_bound = (c.requires.positive_bound.1, c.requires.positive_bound.2); weft_fits = weft_back _ _ c.lay_side-p.ensures c.requires.weft_fits }

pub returns : goal.returns
unfolding arcs_weft
returns c = weft_both _ _ c.lay_side-p.ensures c.lay_side.ensures
