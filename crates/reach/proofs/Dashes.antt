-- How many points the cut runs of a path have. A dash has a cut at each end at the most and between them corners, of which its run has no more than kept points; so it has two points more at
-- the most, and it is open. A run that is not cut is as it was. Each is walked in 65,536 legs at the most, whatever the number of cuts. Assumes nothing.
use Prim.Native.Nat.{ℕ, suc, ◌+◌, ◌≤◌, ◌<◌}
use mathlib.Core.Path.{◌≡◌, refl}
use mathlib.Core.Bool.{Bool, true, false, cond}
use mathlib.Core.List.{List, [], ◌∷◌, ◌++◌}
use native.Mathlib.Omega.{arith}
use lib.Ieee.{Float}
use lib.ListN.{length, length-append}
use Rattle.plane.specs.F32.{f32}
use Rattle.endpoint.specs.declared.Endpoint.{Endpoint}
use Rattle.path.specs.Runs.{Run}
use Rattle.kept.specs.Kept.{kept_points}
use Rattle.kept.proofs.Lengths.{kept_few}
use Rattle.lists.specs.All.{All}
use Rattle.lists.proofs.All.{all_append}
use Rattle.dashes.specs.Pattern.{is_dash, worn_of, first_cut}
use Rattle.dashes.specs.Marks.{marks_of, marks_from, cut_marks, cuts_on, behind, turned_of, spot_of, cuts_enough}
use Rattle.dashes.specs.declared.spot.Mark.{Mark}
use Rattle.dashes.specs.declared.spot.Mark.TheVariants.{Cut, Corner}
use Rattle.dashes.specs.Dashes.{dashes_from, dashes_of}
use Rattle.dashes.specs.declared.pattern.Beat.{Beat}
use Rattle.dashes.specs.declared.spot.Spot.{Spot}
use Rattle.cuts.specs.Runs.{is_cut, is_line, lines_of, cut_run, cut_runs}
use Rattle.stays.specs.Stays.{Fewer}
use Rattle.reach.proofs.Course.{point_limit}

-- ---- the corners of a run: one to each edge
corner_count : List Mark → ℕ
corner_count [] = 0
corner_count (Corner p ∷ ms) = suc (corner_count ms)
corner_count (Cut p ∷ ms) = corner_count ms

cuts_none : (cs : List Endpoint) (ms : List Mark) → corner_count (cut_marks cs ++ ms) ≡ corner_count ms
unfolding corner_count cut_marks
cuts_none [] ms = refl
cuts_none (c ∷ cs) ms = cuts_none cs ms

from_corners : (ds : List Float) (s : Spot) (ps : List Endpoint) → corner_count (marks_from ds s ps) ≡ suc (length ps)
unfolding corner_count marks_from
from_corners ds s [] = cuts_none (cuts_on cuts_enough ds s) (Corner s.to ∷ [])
from_corners ds s (p ∷ ps) =
    let next = turned_of (behind cuts_enough ds s) p in
    omega (arith, cuts_none (cuts_on cuts_enough ds s) (Corner s.to ∷ marks_from ds next ps), from_corners ds next ps)

of_corners : (closed : Bool) (ds : List Float) (b : Beat) (ks : List Endpoint) → corner_count (marks_of closed ds b ks) ≤ length ks
unfolding corner_count marks_of
of_corners closed ds b [] = omega arith
of_corners closed ds b (p0 ∷ []) = omega arith
of_corners closed ds b (p0 ∷ p1 ∷ ps) = go closed (from_corners ds (spot_of p0 (f32 0) p1 b))
  where
    go : (t : Bool) → ((qs : List Endpoint) → corner_count (marks_from ds (spot_of p0 (f32 0) p1 b) qs) ≡ suc (length qs))
        → corner_count (marks_from ds (spot_of p0 (f32 0) p1 b) (ps ++ cond t (p0 ∷ []) [])) ≤ suc (suc (length ps))
    go true e = omega (arith, e (ps ++ p0 ∷ []), length-append ps (p0 ∷ []))
    go false e = omega (arith, e (ps ++ []), length-append {A = Endpoint} ps [])

-- ---- the points of a dash
abbrev NoLonger : ℕ → List Endpoint → Type 0
NoLonger n d = length d ≤ n

from_few : (n : ℕ) (inside : Bool) (ps : List Endpoint) (ms : List Mark) → length ps + corner_count ms + 1 ≤ n → corner_count ms + 2 ≤ n → All (NoLonger n) (dashes_from inside ps ms)
unfolding corner_count dashes_from
from_few n true ps [] h g = (omega arith, tt)
from_few n true ps (Corner p ∷ ms) h g = from_few n true (ps ++ p ∷ []) ms (omega (arith, length-append ps (p ∷ []))) (omega arith)
from_few n true ps (Cut p ∷ ms) h g = (omega (arith, length-append ps (p ∷ [])), from_few n false [] ms (omega arith) (omega arith))
from_few n false ps [] h g = tt
from_few n false ps (Corner p ∷ ms) h g = from_few n false [] ms (omega arith) (omega arith)
from_few n false ps (Cut p ∷ ms) h g = from_few n true (p ∷ []) ms (omega arith) (omega arith)

dashes_few : (closed : Bool) (ds : List Float) (offset : Float) (ks : List Endpoint) (n : ℕ) → length ks + 2 ≤ n → All (NoLonger n) (dashes_of closed ds offset ks)
unfolding dashes_of
dashes_few closed ds offset [] n h = tt
dashes_few closed ds offset (p0 ∷ ps) n h = go (is_dash ds b.index) (marks_of closed ds b (p0 ∷ ps)) (of_corners closed ds b (p0 ∷ ps))
  where
    b : Beat
    b = first_cut ds (worn_of ds offset)

    go : (t : Bool) (ms : List Mark) → corner_count ms ≤ suc (length ps) → All (NoLonger n) (cond t (dashes_from true (p0 ∷ []) ms) (dashes_from false [] ms))
    go true ms c = from_few n true (p0 ∷ []) ms (omega arith) (omega arith)
    go false ms c = from_few n false [] ms (omega arith) (omega arith)

-- ---- the cut runs
abbrev pub Few : Run Endpoint → Type 0
Few r = length r.points < point_limit r.closed

uncut_few : (closed : Bool) (n : ℕ) → n < 65536 → n < point_limit closed
uncut_few true n h = h
uncut_few false n h = omega arith

module _ (limit : Float) where
  lines_few : (dashes : List (List Endpoint)) → All (NoLonger 65537) dashes → All Few (lines_of limit dashes)
  unfolding lines_of
  lines_few [] a = tt
  lines_few (ps ∷ rest) a = go (is_line limit ps) (lines_few rest a.1)
    where
      go : (t : Bool) → All Few (lines_of limit rest) → All Few (cond t (record { closed = false; points = ps } ∷ lines_of limit rest) (lines_of limit rest))
      go true b = (omega (arith, a.0), b)
      go false b = b

  module _ (ds : List Float) (offset : Float) where
    run_few : (r : Run Endpoint) → Fewer r → All Few (cut_run limit ds offset r)
    unfolding cut_run
    run_few r f = go (is_cut ds (kept_points limit r.closed r.points))
      where
        go : (t : Bool) → let ks = kept_points limit r.closed r.points in All Few (cond t (lines_of limit (dashes_of r.closed ds offset ks)) (r ∷ []))
        go true =
            let ks = kept_points limit r.closed r.points in
            lines_few (dashes_of r.closed ds offset ks) (dashes_few r.closed ds offset ks 65537 (omega (arith, kept_few limit r.closed r.points)))
        go false = (uncut_few r.closed (length r.points) f, tt)

    pub cut_few : (rs : List (Run Endpoint)) → All Fewer rs → All Few (cut_runs limit ds offset rs)
    unfolding cut_runs
    cut_few [] f = tt
    cut_few (r ∷ rs) f = all_append Few (cut_run limit ds offset r) (cut_runs limit ds offset rs) (run_few r f.0) (cut_few rs f.1)
