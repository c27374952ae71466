-- What the passes need of a path. Assumes nothing.
use Rattle.std.specs.Prelude.{ℕ, ◌+◌, ◌*◌, ◌≤◌, ◌<◌, ◌≡◌, List, Float, length}
use Rattle.endpoint.specs.Endpoint.{id_limit}
use Rattle.path.specs.Verbs.{point_count}
use Rattle.runs.specs.declared.cursor.Cursor.{Cursor}

-- a path whose verbs name as many points as it has; a u32 holds their numbers
pub record Paired (verbs : List ℕ) (coords : List Float) : Type 0 where
  pub points : length coords ≡ 2 * point_count verbs
  pub few : length coords < id_limit

-- the current run lies within the coordinates
pub record Inside (g : Cursor) (coords : List Float) : Type 0 where
  pub end : 2 * (g.first.0 + g.size) ≤ length coords
  pub few : length coords < id_limit
