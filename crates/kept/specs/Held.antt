-- What the code holds of a run: its points, and where two or more are kept the index of the second. Assumes nothing.
use Rattle.std.specs.Prelude.{◌+◌, List, Float, drop}
use Rattle.endpoint.specs.declared.Endpoint.{Endpoint}
use Rattle.kept.specs.Points.{endpoints_of, endpoint_at}
use Rattle.kept.specs.Looks.{run_from}
use Rattle.kept.specs.declared.points.Points.{Points}
use Rattle.kept.specs.declared.points.Kept.{Kept}

abbrev pub points_of : Points → List Endpoint
points_of p = endpoints_of p.first.0 p.coords.now

-- the first kept point and the second
abbrev pub p0_of : Kept → Endpoint
p0_of k = endpoint_at k.points.coords.now k.points.first.0 0

abbrev pub p1_of : Kept → Endpoint
p1_of k = endpoint_at k.points.coords.now k.points.first.0 k.second

-- all of them
abbrev pub run_of : Float → Kept → List Endpoint
run_of limit k = run_from limit k.points.coords.now k.points.first.0 k.second

-- the points behind the second kept one, kept or not
abbrev pub behind_of : Kept → List Endpoint
behind_of k = drop (k.second + 1) (points_of k.points)
