-- Counting over the verbs of a path: what is counted and what is to come is the same behind every verb. Assumes nothing.
use Rattle.std.specs.Prelude.{ℕ, ◌+◌, ◌*◌, ◌≤◌, ◌<◌, ◌≡◌, List, ◌∷◌, Float, length, drop}
use Rattle.endpoint.specs.Endpoint.{id_limit}
use Rattle.path.specs.Runs.{runs_from}
use Rattle.path.specs.Verbs.{named}
use Rattle.kept.specs.Points.{endpoints_of}
use Rattle.dashes.specs.Marks.{cuts_enough}
use Rattle.dashes.specs.declared.pattern.Beat.{Beat}
use Rattle.cuts.specs.Cuts.{runs_cuts, capped_of}
use Rattle.cuts.specs.declared.Progress.{Progress}

-- the current run lies within the coordinates
pub record Inside (g : Progress) (coords : List Float) : Type 0 where
  pub end : 2 * (g.first.0 + g.size) ≤ length coords
  pub short : length coords < id_limit
  pub few : g.cuts ≤ cuts_enough

module _ (limit : Float) (ds : List Float) (b : Beat) (coords : List Float) where
  -- what is counted and what is to come
  abbrev pub counts : Progress → List ℕ → ℕ
  counts g verbs = capped_of (g.cuts + runs_cuts limit ds b (runs_from g.size verbs (drop g.first.0 (endpoints_of 0 coords))))

  pub record VerbCounted (g : Progress) (verb : ℕ) (r : Progress) : Type 0 where
    pub points : r.first.0 + r.size ≡ g.first.0 + g.size + named verb
    pub few : r.cuts ≤ cuts_enough
    pub same : (verbs : List ℕ) → counts g (verb ∷ verbs) ≡ counts r verbs
