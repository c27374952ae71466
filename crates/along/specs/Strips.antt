-- What the writers of a run's strip need and do. Assumes nothing.
use Rattle.std.specs.Prelude.{ℕ, ◌+◌, ◌*◌, ◌≤◌, ◌<◌, List, Float, length}
use Rattle.endpoint.specs.Endpoint.{id_limit}

-- a run's coordinates p, the number of its first endpoint, which a u32 holds with those behind it, and the index i of a point
pub record Within (p : List Float) (first i : ℕ) : Type 0 where
  pub point : 2 * i + 2 ≤ length p
  pub few : first + length p < id_limit
