-- The cut runs of a path stay inside the limits: the points of a dash by `stays`, since kept points are inside, and a run that is not cut as it was. Assumes nothing.
use Prim.Native.Nat.{◌<◌}
use mathlib.Core.Path.{◌≡◌, refl}
use mathlib.Core.Bool.{Bool, true, false, ◌&&◌, cond}
use mathlib.Core.List.{List, [], ◌∷◌}
use native.Mathlib.Omega.{arith}
use borrow.Author.Tests.{ltb-true}
use lib.Dec.{ltb}
use lib.Ieee.{Float}
use lib.ListN.{length}
use Rattle.endpoint.specs.declared.Endpoint.{Endpoint}
use Rattle.lists.specs.All.{All}
use Rattle.lists.proofs.All.{all_append}
use Rattle.path.specs.Runs.{Run}
use Rattle.kept.specs.Kept.{kept_points}
use Rattle.kept.proofs.Keeping.{kept_all}
use Rattle.kept.proofs.Lengths.{kept_few}
use Rattle.dashes.specs.Pattern.{pattern_in}
use Rattle.dashes.specs.Dashes.{dashes_of}
use Rattle.cuts.specs.Runs.{is_line, lines_of, cut_run, cut_runs}
use Rattle.stays.specs.Stays.{Inside, RunIn, Fewer, CutsStay}
use Rattle.stays.proofs.Never.{stays}

module _ (limit : Float) where
  -- a dash is drawn whole or not at all
  lines_in : (dashes : List (List Endpoint)) → All (All Inside) dashes → All RunIn (lines_of limit dashes)
  unfolding lines_of
  lines_in [] a = tt
  lines_in (ps ∷ rest) a = go (is_line limit ps) (lines_in rest a.1)
    where
      go : (t : Bool) → All RunIn (lines_of limit rest) → All RunIn (cond t (record { closed = false; points = ps } ∷ lines_of limit rest) (lines_of limit rest))
      go true b = (a.0, b)
      go false b = b

  module _ (ds : List Float) (o : Float) (e : pattern_in ds o ≡ true) where
    run_stays : (r : Run Endpoint) → Fewer r → RunIn r → All RunIn (cut_run limit ds o r)
    unfolding cut_run
    run_stays r f i = go (ltb 0 (length ds)) refl (ltb 1 (length ks))
      where
        ks : List Endpoint
        ks = kept_points limit r.closed r.points

        dashes_in : 0 < length ds → All (All Inside) (dashes_of r.closed ds o ks)
        dashes_in some = stays ds o e some r.closed ks (omega (arith, kept_few limit r.closed r.points)) (kept_all limit Inside r.closed r.points i)

        go : (s : Bool) → ltb 0 (length ds) ≡ s → (t : Bool) → All RunIn (cond (s && t) (lines_of limit (dashes_of r.closed ds o ks)) (r ∷ []))
        go true c true = lines_in (dashes_of r.closed ds o ks) (dashes_in (ltb-true 0 (length ds) c))
        go true c false = (i, tt)
        go false c t = (i, tt)

    all_stay : (rs : List (Run Endpoint)) → All Fewer rs → All RunIn rs → All RunIn (cut_runs limit ds o rs)
    unfolding cut_runs
    all_stay [] f i = tt
    all_stay (r ∷ rs) f i = all_append RunIn (cut_run limit ds o r) (cut_runs limit ds o rs) (run_stays r f.0 i.0) (all_stay rs f.1 i.1)

pub cut_runs_inside : CutsStay
cut_runs_inside limit ds o e rs f i = all_stay limit ds o e rs f i
