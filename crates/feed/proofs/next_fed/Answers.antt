-- `feed::next_fed` meets its contract. Assumes nothing.
use mathlib.Core.Path.{sym, ◌∙◌}
use Rattle.feed.proofs.Feeding.{cut_index, fed_cut, fed_corner}
use Rattle.feed.proofs.next_fed.Goals as goal

pub passed-requires : goal.passed-requires
passed-requires c = (c.requires.some, cut_index _ _ _ _ _ c.requires)

pub returns-then-falls : goal.returns-then-falls
returns-then-falls c = fed_cut _ _ _ _ _ c.requires _ _ (sym c.falls.ensures ∙ c.if-falls.true) c.cut_of.ensures c.passed.ensures

pub returns : goal.returns
returns c = fed_corner _ _ _ _ _ c.requires _ (sym c.falls.ensures ∙ c.if-falls.false) c.turn.ensures
