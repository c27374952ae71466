-- `path::coordinates::are_in_limits` meets its contract. The invariant: `all` is what the fold over the first `x-index` comes to. Assumes nothing.
use mathlib.Core.Bool.{true, ◌&&◌}
use mathlib.Core.Path.{◌≡◌}
use lib.ListN.{take}
use Rattle.std.specs.List.{fold}
use Rattle.path.specs.Coordinates.{coordinate_in}
use Rattle.path.proofs.coordinates.are_in_limits.Given as goal

abbrev pub invariant-loop-x : goal.invariant-loop-x
invariant-loop-x l = l.all ≡ fold (λ t x. t && coordinate_in x) true (take l.x-index l.coords)
