-- What the two looks over a run's points find. Assumes nothing.
use Rattle.std.specs.Prelude.{ℕ, ◌+◌, ◌-◌, ◌/◌, ◌<◌, ◌≤◌, ◌≡◌, false, cond, List, ◌∷◌, Float, length, take, drop}
use Rattle.endpoint.specs.declared.Endpoint.{Endpoint}
use Rattle.kept.specs.Kept.{near, kept_behind, trimmed}
use Rattle.kept.specs.Points.{endpoints_of, endpoint_at}
use Rattle.kept.specs.declared.Look.{Look}

module _ (limit : Float) where
  -- the points from 1 up to r are near p0, and r is not or is the number of points
  pub record FirstFar (p : List Float) (first r : ℕ) : Type 0 where
    pub least : 1 ≤ r
    pub within : r ≤ length p / 2
    pub kept : kept_behind limit (endpoint_at p first 0) (drop 1 (endpoints_of first p)) ≡ kept_behind limit (endpoint_at p first 0) (drop r (endpoints_of first p))
    pub far : r < length p / 2 → near limit (endpoint_at p first 0) (endpoint_at p first r) ≡ false

  unfoldable pub looked_of : Look → Endpoint → Endpoint → ℕ → Look
  looked_of l p0 c i = cond (near limit l.last c) l (record { last = c; end = cond (near limit p0 c) l.end (i + 1) })

  -- a closed run keeps what an open run of its first r points keeps
  pub record Ended (p : List Float) (first r : ℕ) : Type 0 where
    pub least : 1 ≤ r
    pub within : r ≤ length p / 2
    pub trim : trimmed limit (endpoint_at p first 0) (kept_behind limit (endpoint_at p first 0) (drop 1 (endpoints_of first p)))
        ≡ kept_behind limit (endpoint_at p first 0) (take (r - 1) (drop 1 (endpoints_of first p)))

  -- the kept points where the second is at i, and none is dropped on closing
  abbrev pub run_from : List Float → ℕ → ℕ → List Endpoint
  run_from p first i = endpoint_at p first 0 ∷ endpoint_at p first i ∷ kept_behind limit (endpoint_at p first i) (drop (i + 1) (endpoints_of first p))
