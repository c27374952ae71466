-- What a run of kept points has by its type. Assumes nothing.
use Rattle.kept.specs.declared.points.Kept.{Kept}
use Rattle.along.specs.Strips.{Within}

pub held_within : (k : Kept) → Within k.points.coords.now k.points.first.0 k.second
held_within k = record { point = k.within; few = k.points.numbered }
