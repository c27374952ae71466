-- `fans::lay_start_fan` meets its contract. Assumes nothing.
use Rattle.fans.specs.Fans.{start_fan}
use Rattle.fans.proofs.lay_start_fan.Goals as goal

pub lay_cap-requires : goal.lay_cap-requires
unfolding start_fan
lay_cap-requires c = rw (c.cap_end-b.ensures, c.cap_end-a.ensures, c.source_of-source.ensures, c.hub_of-hub.ensures) c.requires.weft_fits

pub returns : goal.returns
unfolding start_fan
returns c =
    rw (c.cap_end-b.ensures, c.cap_end-a.ensures, c.source_of-source.ensures, c.hub_of-hub.ensures) at c.lay_cap.ensures
