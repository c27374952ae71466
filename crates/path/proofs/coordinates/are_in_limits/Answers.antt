-- `path::coordinates::are_in_limits` meets its contract. Assumes nothing.
use mathlib.Core.Bool.{true, ◌&&◌}
use mathlib.Core.Path.{refl}
use Rattle.std.proofs.lemmas.List.{take_all}
use Rattle.std.proofs.lemmas.List.Sums.{fold_more}
use lib.Ieee.{nan}
use Rattle.path.specs.Coordinates.{coordinate_in}
use Rattle.path.proofs.coordinates.are_in_limits.Goals as goal

pub loop-x-init : goal.loop-x-init
loop-x-init c = refl

pub loop-x-preserved : goal.loop-x-preserved
loop-x-preserved c = rw (fold_more (λ t x. t && coordinate_in x) true c.args.coords.now c.loop-x.x-index nan c.loop-x-test.true, ← c.loop-x.invariant, c.is_in_limits-all.ensures)

pub returns : goal.returns
returns c = rw (take_all c.loop-x.x-index c.args.coords.now c.loop-x-test.false) at c.loop-x.invariant
