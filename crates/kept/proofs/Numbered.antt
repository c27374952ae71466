-- A run's points are numbered below the limit where its last one is, and so are those that are kept. Assumes nothing.
use Prim.Native.Nat.{ℕ, ◌+◌, ◌*◌, ◌≤◌, ◌<◌}
use mathlib.Core.List.{List, [], ◌∷◌}
use native.Mathlib.Omega.{arith}
use lib.Ieee.{Float}
use lib.ListN.{length, drop}
use Rattle.endpoint.specs.Endpoint.{id_limit}
use Rattle.endpoint.specs.declared.Endpoint.{Endpoint}
use Rattle.lists.specs.All.{All}
use Rattle.lists.proofs.All.{all_drop}
use Rattle.kept.specs.Points.{endpoints_of, endpoint_at}
use Rattle.kept.specs.Looks.{run_from}
use Rattle.kept.proofs.Keeping.{behind_all}

abbrev pub Numbered : Endpoint → Type 0
Numbered e = e.id.0 < id_limit

points_numbered : (p : List Float) (first : ℕ) → first + length p < id_limit → All Numbered (endpoints_of first p)
unfolding endpoints_of
points_numbered [] first h = tt
points_numbered (x ∷ []) first h = tt
points_numbered (x ∷ y ∷ p) first h = (omega arith, points_numbered p (first + 1) (omega arith))

pub run_numbered : (limit : Float) (p : List Float) (first i : ℕ) → 2 * i + 2 ≤ length p → first + length p < id_limit → All Numbered (run_from limit p first i)
run_numbered limit p first i h f =
    (omega arith, (omega arith, behind_all limit Numbered (endpoint_at p first i) (drop (i + 1) (endpoints_of first p)) (all_drop Numbered (i + 1) (endpoints_of first p) (points_numbered p first f))))
