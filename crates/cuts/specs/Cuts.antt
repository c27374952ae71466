-- W-213: "26, over 65,536 cut points in all": the cuts that fall on the edges, drawn or not, of all runs. Assumes nothing.
use Rattle.std.specs.Prelude.{ℕ, suc, ◌+◌, Bool, not, ◌&&◌, cond, List, [], ◌∷◌, leb, ltb, eqb, Float, length}
use Rattle.endpoint.specs.declared.Endpoint.{Endpoint}
use Rattle.path.specs.Runs.{Run, runs_from}
use Rattle.kept.specs.Kept.{kept_points}
use Rattle.kept.specs.Points.{endpoints_of}
use Rattle.dashes.specs.Pattern.{worn_of, first_cut}
use Rattle.dashes.specs.Marks.{marks_of, cut_limit, cuts_enough}
use Rattle.dashes.specs.declared.spot.Mark.{Mark}
use Rattle.dashes.specs.declared.spot.Mark.TheVariants.{Cut, Corner}
use Rattle.dashes.specs.declared.pattern.Beat.{Beat}

-- how many of a run's marks are cuts
unfoldable pub cut_count : List Mark → ℕ
cut_count [] = 0
cut_count (Cut p ∷ ms) = suc (cut_count ms)
cut_count (Corner p ∷ ms) = cut_count ms

-- of kept points
abbrev pub kept_cuts : Bool → List Float → Beat → List Endpoint → ℕ
kept_cuts closed ds b ps = cut_count (marks_of closed ds b ps)

module _ (limit : Float) (ds : List Float) where
  -- "in all": of all runs, each with the first cut b
  unfoldable pub runs_cuts : Beat → List (Run Endpoint) → ℕ
  runs_cuts b [] = 0
  runs_cuts b (r ∷ rs) = kept_cuts r.closed ds b (kept_points limit r.closed r.points) + runs_cuts b rs

  -- of a path, by the pattern's lengths and its offset
  abbrev pub path_cuts : Float → List ℕ → List Float → ℕ
  path_cuts offset verbs coords = runs_cuts (first_cut ds (worn_of ds offset)) (runs_from 0 verbs (endpoints_of 0 coords))

  -- refusal 26; "An empty list means no dashes"
  unfoldable pub has_too_many_cuts : Float → List ℕ → List Float → Bool
  has_too_many_cuts offset verbs coords = not (eqb (length ds) 0) && ltb cut_limit (path_cuts offset verbs coords)

-- as far as is counted: one more than is accepted stands for every greater number
unfoldable pub capped_of : ℕ → ℕ
capped_of n = cond (leb n cut_limit) n cuts_enough
