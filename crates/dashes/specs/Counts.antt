-- What counting the cuts of an edge finds. Assumes nothing.
use Rattle.std.specs.Prelude.{◌+◌, ◌≤◌, ◌≡◌, List, Float, length}
use Rattle.dashes.specs.Marks.{cuts_on, behind, cuts_enough}
use Rattle.dashes.specs.declared.spot.Spot.{Spot}
use Rattle.dashes.specs.declared.count.Passed.{Passed}

pub record EdgeCounted (ds : List Float) (s : Spot) (r : Passed) : Type 0 where
  pub count : r.count ≡ length (cuts_on cuts_enough ds s)
  pub spot : r.spot ≡ behind cuts_enough ds s
  pub most : r.count ≤ cuts_enough
  pub index : r.spot.beat.index ≡ s.beat.index + r.count
