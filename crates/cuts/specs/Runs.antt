-- W-213's cut runs: "Each run's kept points are cut by advancement in f32 into open runs that carry on around joins inside a dash." Assumes nothing.
use Rattle.std.specs.Prelude.{◌≤◌, ◌<◌, Bool, false, ◌&&◌, cond, List, [], ◌∷◌, ◌++◌, ltb, Float, length}
use Rattle.endpoint.specs.declared.Endpoint.{Endpoint}
use Rattle.path.specs.Runs.{Run}
use Rattle.kept.specs.Kept.{kept_points}
use Rattle.dashes.specs.Pattern.{worn_of, first_cut}
use Rattle.dashes.specs.Marks.{cut_limit}
use Rattle.dashes.specs.Dashes.{dashes_of}
use Rattle.cuts.specs.Cuts.{runs_cuts}

-- "An empty list means no dashes."; "A run of one kept point stays under rule 2."
abbrev pub is_cut : List Float → List Endpoint → Bool
is_cut ds ks = ltb 0 (length ds) && ltb 1 (length ks)

-- points whose squared distance is below the limit are near; ds holds the lengths of the pattern
module _ (limit : Float) where
  -- "Cut runs pass through rule 1 again, and a dash left with one point is drawn as nothing."
  abbrev pub is_line : List Endpoint → Bool
  is_line ps = ltb 1 (length (kept_points limit false ps))

  -- the dashes that are drawn, as open runs
  unfoldable pub lines_of : List (List Endpoint) → List (Run Endpoint)
  lines_of [] = []
  lines_of (ps ∷ rest) = cond (is_line ps) (record { closed = false; points = ps } ∷ lines_of rest) (lines_of rest)

  module _ (ds : List Float) where
    unfoldable pub cut_run : Float → Run Endpoint → List (Run Endpoint)
    cut_run offset r = let ks = kept_points limit r.closed r.points in cond (is_cut ds ks) (lines_of (dashes_of r.closed ds offset ks)) (r ∷ [])

    -- of all runs, in their order
    unfoldable pub cut_runs : Float → List (Run Endpoint) → List (Run Endpoint)
    cut_runs offset [] = []
    cut_runs offset (r ∷ rs) = cut_run offset r ++ cut_runs offset rs

    -- where there are dashes, no more cuts than refusal 26 accepts
    abbrev pub FewCuts : Float → List (Run Endpoint) → Type 0
    FewCuts offset rs = 0 < length ds → runs_cuts limit ds (first_cut ds (worn_of ds offset)) rs ≤ cut_limit
