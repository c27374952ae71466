-- The cut runs of a path: of runs one behind the other they stand one behind the other; without dashes they are the runs themselves; and they have no more points than the runs, a point more to each run
-- (p0 of a closed one comes twice) and the cuts. Assumes nothing.
use Prim.Native.Nat.{ℕ, suc, ◌+◌, ◌≤◌}
use mathlib.Core.Path.{◌≡◌, refl, ap}
use mathlib.Core.Bool.{Bool, true, false, ◌&&◌, cond}
use mathlib.Core.List.{List, [], ◌∷◌, ◌++◌, append_assoc}
use native.Mathlib.Omega.{arith}
use lib.Dec.{ltb}
use lib.Ieee.{Float}
use lib.ListN.{length, length-append}
use Rattle.endpoint.specs.declared.Endpoint.{Endpoint}
use Rattle.plane.specs.F32.{f32}
use Rattle.path.specs.Runs.{Run, points_of}
use Rattle.path.proofs.Runs.{points_append}
use Rattle.kept.specs.Kept.{kept_points}
use Rattle.kept.proofs.Lengths.{kept_few}
use Rattle.dashes.specs.Pattern.{is_dash, worn_of, first_cut}
use Rattle.dashes.specs.Marks.{marks_of, marks_from, cut_marks, cuts_on, behind, turned_of, spot_of, cuts_enough}
use Rattle.dashes.specs.declared.spot.Mark.{Mark}
use Rattle.dashes.specs.declared.spot.Mark.TheVariants.{Cut, Corner}
use Rattle.dashes.specs.Dashes.{dashes_from, dashes_of}
use Rattle.dashes.specs.declared.pattern.Beat.{Beat}
use Rattle.dashes.specs.declared.spot.Spot.{Spot}
use Rattle.cuts.specs.Cuts.{cut_count, kept_cuts, runs_cuts}
use Rattle.cuts.specs.Runs.{is_cut, lines_of, cut_run, cut_runs, FewCuts}
use Rattle.cuts.proofs.Counting.{count_append}

-- ---- runs one behind the other
module _ (limit : Float) (ds : List Float) where
  pub cut_append : (offset : Float) (xs ys : List (Run Endpoint)) → cut_runs limit ds offset (xs ++ ys) ≡ cut_runs limit ds offset xs ++ cut_runs limit ds offset ys
  unfolding cut_runs
  cut_append offset [] ys = refl
  cut_append offset (x ∷ xs) ys = rw (cut_append offset xs ys, append_assoc)

  pub cuts_append : (b : Beat) (xs ys : List (Run Endpoint)) → runs_cuts limit ds b (xs ++ ys) ≡ runs_cuts limit ds b xs + runs_cuts limit ds b ys
  unfolding runs_cuts
  cuts_append b [] ys = omega arith
  cuts_append b (x ∷ xs) ys = omega (arith, cuts_append b xs ys)

  -- what is accepted of all is accepted of those between
  pub few_between : (offset : Float) (xs ys zs : List (Run Endpoint)) → FewCuts limit ds offset (xs ++ (ys ++ zs)) → FewCuts limit ds offset ys
  few_between offset xs ys zs f h =
      let b = first_cut ds (worn_of ds offset) in
      let e = cuts_append b xs (ys ++ zs) in
      let g = cuts_append b ys zs in
      let m = f h in
      omega (arith, e, g, m)

-- ---- "An empty list means no dashes."
pub uncut : (limit offset : Float) (rs : List (Run Endpoint)) → cut_runs limit [] offset rs ≡ rs
unfolding cut_runs cut_run
uncut limit offset [] = refl
uncut limit offset (r ∷ rs) = ap (λ (l : List (Run Endpoint)). r ∷ l) (uncut limit offset rs)

-- ---- how many points there are
total : List (List Endpoint) → ℕ
total [] = 0
total (ps ∷ rest) = length ps + total rest

from_few : (inside : Bool) (ps : List Endpoint) (ms : List Mark) → total (dashes_from inside ps ms) ≤ cond inside (length ps) 0 + length ms
unfolding total dashes_from
from_few true ps [] = omega arith
from_few true ps (Corner p ∷ ms) = omega (arith, from_few true (ps ++ p ∷ []) ms, length-append ps (p ∷ []))
from_few true ps (Cut p ∷ ms) = omega (arith, from_few false [] ms, length-append ps (p ∷ []))
from_few false ps [] = omega arith
from_few false ps (Corner p ∷ ms) = omega (arith, from_few false [] ms)
from_few false ps (Cut p ∷ ms) = omega (arith, from_few true (p ∷ []) ms)

cut_marks_lem : (ps : List Endpoint) → length (cut_marks ps) ≡ length ps
unfolding cut_marks
cut_marks_lem [] = refl
cut_marks_lem (p ∷ ps) = ap suc (cut_marks_lem ps)

-- the marks of a run are its cuts, and a corner to each edge
marks_few : (ds : List Float) (s : Spot) (ps : List Endpoint) → length (marks_from ds s ps) ≡ cut_count (marks_from ds s ps) + suc (length ps)
unfolding marks_from cut_count
marks_few ds s [] =
    let cs = cuts_on cuts_enough ds s in
    omega (arith, length-append (cut_marks cs) (Corner s.to ∷ []), cut_marks_lem cs, count_append cs (Corner s.to ∷ []))
marks_few ds s (p ∷ ps) =
    let cs = cuts_on cuts_enough ds s in
    let ms = marks_from ds (turned_of (behind cuts_enough ds s) p) ps in
    omega (arith, length-append (cut_marks cs) (Corner s.to ∷ ms), cut_marks_lem cs, count_append cs (Corner s.to ∷ ms), marks_few ds (turned_of (behind cuts_enough ds s) p) ps)

closing_few : (closed : Bool) (p : Endpoint) (ps : List Endpoint) → length (ps ++ cond closed (p ∷ []) []) ≤ length ps + 1
closing_few true p ps = omega (arith, length-append ps (p ∷ []))
closing_few false p ps = omega (arith, length-append {A = Endpoint} ps [])

of_few : (closed : Bool) (ds : List Float) (b : Beat) (p0 p1 : Endpoint) (ps : List Endpoint)
    → length (marks_of closed ds b (p0 ∷ p1 ∷ ps)) ≤ kept_cuts closed ds b (p0 ∷ p1 ∷ ps) + length (p1 ∷ ps) + 1
unfolding marks_of
of_few closed ds b p0 p1 ps = omega (arith, marks_few ds (spot_of p0 (f32 0) p1 b) (ps ++ cond closed (p0 ∷ []) []), closing_few closed p0 ps)

dashes_few : (closed : Bool) (ds : List Float) (offset : Float) (p0 p1 : Endpoint) (ps : List Endpoint)
    → total (dashes_of closed ds offset (p0 ∷ p1 ∷ ps)) ≤ length (p0 ∷ p1 ∷ ps) + 1 + kept_cuts closed ds (first_cut ds (worn_of ds offset)) (p0 ∷ p1 ∷ ps)
unfolding dashes_of
dashes_few closed ds offset p0 p1 ps = go (is_dash ds (first_cut ds (worn_of ds offset)).index) (marks_of closed ds (first_cut ds (worn_of ds offset)) (p0 ∷ p1 ∷ ps)) (kept_cuts closed ds (first_cut ds (worn_of ds offset)) (p0 ∷ p1 ∷ ps)) (of_few closed ds (first_cut ds (worn_of ds offset)) p0 p1 ps)
  where
    go : (t : Bool) (ms : List Mark) (n : ℕ) → length ms ≤ n + length (p1 ∷ ps) + 1 → total (cond t (dashes_from true (p0 ∷ []) ms) (dashes_from false [] ms)) ≤ length (p0 ∷ p1 ∷ ps) + 1 + n
    go true ms n h = omega (arith, from_few true (p0 ∷ []) ms)
    go false ms n h = omega (arith, from_few false [] ms)

lines_few : (limit : Float) (dashes : List (List Endpoint)) → length (points_of (lines_of limit dashes)) ≤ total dashes
unfolding lines_of points_of total
lines_few limit [] = omega arith
lines_few limit (ps ∷ rest) = go (ltb 1 (length (kept_points limit false ps))) (lines_few limit rest)
  where
    go : (t : Bool) → length (points_of (lines_of limit rest)) ≤ total rest → length (points_of (cond t (record { closed = false; points = ps } ∷ lines_of limit rest) (lines_of limit rest))) ≤ length ps + total rest
    go true h = simp length-append (omega arith)
    go false h = omega arith

module _ (limit : Float) (ds : List Float) (offset : Float) where
  abbrev b : Beat
  b = first_cut ds (worn_of ds offset)

  run_few : (r : Run Endpoint) → length (points_of (cut_run limit ds offset r)) ≤ length r.points + 1 + kept_cuts r.closed ds b (kept_points limit r.closed r.points)
  unfolding cut_run points_of
  run_few r = by (kept_points limit r.closed r.points) (kept_few limit r.closed r.points)
    where
      kept : (t : Bool) (p0 p1 : Endpoint) (ks : List Endpoint) → length (p0 ∷ p1 ∷ ks) ≤ length r.points
          → length (points_of (cond t (lines_of limit (dashes_of r.closed ds offset (p0 ∷ p1 ∷ ks))) (r ∷ []))) ≤ length r.points + 1 + kept_cuts r.closed ds b (p0 ∷ p1 ∷ ks)
      kept true p0 p1 ks h = omega (arith, lines_few limit (dashes_of r.closed ds offset (p0 ∷ p1 ∷ ks)), dashes_few r.closed ds offset p0 p1 ks)
      kept false p0 p1 ks h = omega (arith, length-append {A = Endpoint} r.points [])

      whole : (t : Bool) (rest : List (Run Endpoint)) → length (points_of (cond (t && false) rest (r ∷ []))) ≤ length r.points + 1
      whole true rest = omega (arith, length-append {A = Endpoint} r.points [])
      whole false rest = omega (arith, length-append {A = Endpoint} r.points [])

      by : (ks : List Endpoint) → length ks ≤ length r.points
          → length (points_of (cond (is_cut ds ks) (lines_of limit (dashes_of r.closed ds offset ks)) (r ∷ []))) ≤ length r.points + 1 + kept_cuts r.closed ds b ks
      by [] h = omega (arith, whole (ltb 0 (length ds)) (lines_of limit (dashes_of r.closed ds offset [])))
      by (p0 ∷ []) h = omega (arith, whole (ltb 0 (length ds)) (lines_of limit (dashes_of r.closed ds offset (p0 ∷ []))))
      by (p0 ∷ p1 ∷ ks) h = kept (is_cut ds (p0 ∷ p1 ∷ ks)) p0 p1 ks h

  pub cut_points : (rs : List (Run Endpoint)) → length (points_of (cut_runs limit ds offset rs)) ≤ length (points_of rs) + length rs + runs_cuts limit ds b rs
  unfolding cut_runs runs_cuts points_of
  cut_points [] = omega arith
  cut_points (r ∷ rs) =
      let e = points_append (cut_run limit ds offset r) (cut_runs limit ds offset rs) in
      let f = points_append (r ∷ []) rs in
      omega (arith, e, one, run_few r, cut_points rs)
    where
      one : length (points_of (r ∷ rs)) ≡ length r.points + length (points_of rs)
      one = length-append r.points (points_of rs)
