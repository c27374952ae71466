-- The marks to come, one by one. The plan: on an edge, its cut or its corner (`marks_cut` of cuts, `marks_corner`); past the corner, the next kept point, the way back
-- to p0 or the end; then one mark of a feed, and its start. Assumes nothing.
use Prim.Native.Nat.{ℕ, zero, suc, ◌+◌, ◌*◌, ◌/◌, ◌≤◌, ◌<◌}
use mathlib.Core.Path.{◌≡◌, refl, ap, ◌∙◌}
use mathlib.Core.Bool.{Bool, true, false, cond}
use mathlib.Core.List.{List, [], ◌∷◌}
use native.Mathlib.Omega.{arith}
use lib.Ieee.{Float}
use Rattle.std.specs.Prelude.{Option, Some, None, MatchOption, ⊤}
use lib.ListN.{length, drop, drop_of_length-le}
use Rattle.endpoint.specs.Endpoint.{id_limit}
use Rattle.endpoint.specs.declared.Endpoint.{Endpoint}
use Rattle.lists.specs.All.{All}
use Rattle.lists.proofs.All.{all_append, all_drop}
use Rattle.kept.specs.Kept.{kept_behind}
use Rattle.kept.specs.Looks.{run_from}
use Rattle.kept.specs.Points.{endpoints_of, endpoint_at}
use Rattle.kept.proofs.Indexed.{points_at, points_length}
use Rattle.kept.proofs.Further.{keep_far}
use Rattle.kept.proofs.Keeping.{behind_all}
use Rattle.dashes.specs.Pattern.{wear_limit, index_limit, next_cut}
use Rattle.dashes.specs.Marks.{falls_on, cut_of, passed_of, spot_of, turned_of, cuts_on, behind, cut_limit, cuts_enough, cut_marks, marks_from, marks_of}
use Rattle.dashes.specs.declared.spot.Mark.{Mark}
use Rattle.dashes.specs.declared.spot.Mark.TheVariants.{Cut, Corner}
use Rattle.dashes.specs.declared.pattern.Beat.{Beat}
use Rattle.dashes.specs.declared.spot.Spot.{Spot}
use Rattle.cuts.specs.Cuts.{cut_count}
use Rattle.cuts.proofs.Counting.{behind_to}
use Rattle.cuts.proofs.Enough.{marks_cut}
use Rattle.feed.specs.Feed.{WellNumbered, MarkNumbered, onward, first_feed, NextFar, ahead, comes, Turns, FeedFits, Feeds}
use Rattle.feed.specs.declared.Feed.{Feed}

-- ---- on an edge
no_cuts : (n : ℕ) (ds : List Float) (s : Spot) → falls_on s ≡ false → (cuts_on (suc n) ds s ≡ []) × (behind (suc n) ds s ≡ s)
unfolding cuts_on behind
no_cuts n ds s h = (rw h, rw h)

marks_corner : (ds : List Float) (s : Spot) (ps : List Endpoint) → falls_on s ≡ false → marks_from ds s ps ≡ Corner s.to ∷ onward ds s ps
unfolding marks_from onward cut_marks
marks_corner ds s [] h = rw (no_cuts cut_limit ds s h).0
marks_corner ds s (p ∷ ps) h = rw ((no_cuts cut_limit ds s h).0, (no_cuts cut_limit ds s h).1)

-- ---- past a corner
module _ (limit : Float) (p : List Float) (first : ℕ) (f : Feed) where
  abbrev close : List Endpoint
  close = cond f.closes (endpoint_at p first 0 ∷ []) []

  module _ (i : ℕ) (n : NextFar limit p first f.spot.to f.next i) where
    pub turn_far : (c : Endpoint) (s : Spot) → i < length p / 2 → c ≡ endpoint_at p first i → s ≡ turned_of f.spot c
        → Turns limit p first f (Some (record { spot = s; next = i + 1; closes = f.closes }))
    unfolding onward comes spot_of
    turn_far c s h ec es =
        let g : 2 * i + 2 ≤ length p = omega arith in
        rw (es, ec)
        (record {
          same = λ ds. rw (n.kept, points_at p first i g, keep_far limit f.spot.to (endpoint_at p first i) (drop (i + 1) (endpoints_of first p)) (n.far h));
          within = omega arith;
          beat = refl;
        })

    -- no further point is kept
    last : length p / 2 ≤ i → kept_behind limit f.spot.to (drop f.next (endpoints_of first p)) ≡ []
    unfolding kept_behind
    last h =
        let l : length (endpoints_of first p) ≤ i = omega (arith, points_length p first) in
        let d : drop i (endpoints_of first p) ≡ [] = drop_of_length-le (endpoints_of first p) l in
        n.kept ∙ rw d

    pub turn_home : (c : Endpoint) (s : Spot) → length p / 2 ≤ i → f.closes ≡ true → c ≡ endpoint_at p first 0 → s ≡ turned_of f.spot c
        → Turns limit p first f (Some (record { spot = s; next = i; closes = false }))
    unfolding onward comes spot_of kept_behind
    turn_home c s h t ec es =
        let l : length (endpoints_of first p) ≤ i = omega (arith, points_length p first) in
        let d : drop i (endpoints_of first p) ≡ [] = drop_of_length-le (endpoints_of first p) l in
        rw (es, ec) (record { same = λ ds. rw (last h, t, d); within = n.within; beat = refl })

    pub turn_end : length p / 2 ≤ i → f.closes ≡ false → Turns limit p first f None
    unfolding onward comes
    turn_end h t = record { same = λ ds. rw (last h, t); within = tt; beat = tt }

  -- ---- one mark
  module _ (ds : List Float) (w : FeedFits limit p first ds (Some f)) where
    abbrev marks : List Mark
    marks = marks_from ds f.spot (ahead limit p first f)

    here : comes limit p first ds (Some f) ≡ marks
    unfolding comes
    here = refl

    few : cut_count marks ≤ cut_limit
    few = rw here at w.cuts

    -- the numbers of cuts stay small
    pub cut_index : f.spot.beat.index < index_limit
    cut_index = omega (arith, w.index)

    pub fed_cut : (q : Endpoint) (s : Spot) → falls_on f.spot ≡ true → q ≡ cut_of f.spot → s ≡ passed_of ds f.spot
        → Feeds limit p first ds f (record { mark = Cut q; feed = Some (record { spot = s; next = f.next; closes = f.closes }) })
    unfolding comes passed_of next_cut cut_count
    fed_cut q s h eq es = rw (eq, es) (record { marks = e; fits = record { some = w.some; point = w.point; few = w.few; within = w.within; cuts = omega (arith, cuts); index = omega (arith, index); numbered = numbered.1 } })
      where
        on : Option Feed
        on = Some (record { spot = passed_of ds f.spot; next = f.next; closes = f.closes })

        e : comes limit p first ds (Some f) ≡ Cut (cut_of f.spot) ∷ comes limit p first ds on
        e = marks_cut ds f.spot (ahead limit p first f) h few

        cuts : suc (cut_count (comes limit p first ds on)) ≤ cut_limit
        cuts = rw e at w.cuts

        index : f.spot.beat.index + suc (cut_count (comes limit p first ds on)) ≤ wear_limit + cut_limit
        index = rw e at w.index

        numbered : All MarkNumbered (Cut (cut_of f.spot) ∷ comes limit p first ds on)
        numbered = rw e at w.numbered

    pub fed_corner : (r : Option Feed) → falls_on f.spot ≡ false → Turns limit p first f r → Feeds limit p first ds f (record { mark = Corner f.spot.to; feed = r })
    unfolding cut_count
    fed_corner r h t = record { marks = e; fits = record { some = w.some; point = w.point; few = w.few; within = t.within; cuts = cuts; index = go r t.beat index; numbered = numbered.1 } }
      where
        e : comes limit p first ds (Some f) ≡ Corner f.spot.to ∷ comes limit p first ds r
        e = here ∙ marks_corner ds f.spot (ahead limit p first f) h ∙ ap (λ (ms : List Mark). Corner f.spot.to ∷ ms) (t.same ds)

        cuts : cut_count (comes limit p first ds r) ≤ cut_limit
        cuts = rw e at w.cuts

        index : f.spot.beat.index + cut_count (comes limit p first ds r) ≤ wear_limit + cut_limit
        index = rw e at w.index

        numbered : All MarkNumbered (Corner f.spot.to ∷ comes limit p first ds r)
        numbered = rw e at w.numbered

        go : (r : Option Feed) → MatchOption r ⊤ (λ (g : Feed). g.spot.beat ≡ f.spot.beat) → f.spot.beat.index + cut_count (comes limit p first ds r) ≤ wear_limit + cut_limit
            → MatchOption r ⊤ (λ (g : Feed). g.spot.beat.index + cut_count (comes limit p first ds r) ≤ wear_limit + cut_limit)
        go None b i = tt
        go (Some g) b i = omega (arith, ap (λ (k : Beat). k.index) b, i)

-- ---- a run's start
points_counted : (p : List Float) (first : ℕ) → first + length p < id_limit → All WellNumbered (endpoints_of first p)
unfolding endpoints_of
points_counted [] first h = tt
points_counted (x ∷ []) first h = tt
points_counted (x ∷ y ∷ p) first h = (omega arith, points_counted p (first + 1) (omega arith))

run_counted : (limit : Float) (p : List Float) (first i : ℕ) → 2 * i + 2 ≤ length p → first + length p < id_limit → All WellNumbered (run_from limit p first i)
run_counted limit p first i h f =
    (omega arith, (omega arith, behind_all limit WellNumbered (endpoint_at p first i) (drop (i + 1) (endpoints_of first p)) (all_drop WellNumbered (i + 1) (endpoints_of first p) (points_counted p first f))))

cuts_numbered : (n : ℕ) (ds : List Float) (s : Spot) → WellNumbered s.from → All MarkNumbered (cut_marks (cuts_on n ds s))
unfolding cuts_on cut_marks passed_of MarkNumbered cut_of
cuts_numbered zero ds s h = tt
cuts_numbered (suc n) ds s h = go (falls_on s) (cuts_numbered n ds (passed_of ds s) h)
  where
    go : (t : Bool) → All MarkNumbered (cut_marks (cuts_on n ds (passed_of ds s))) → All MarkNumbered (cut_marks (cond t (cut_of s ∷ cuts_on n ds (passed_of ds s)) []))
    go true g = (h, g)
    go false g = tt

marks_numbered : (ds : List Float) (s : Spot) (ps : List Endpoint) → WellNumbered s.from → WellNumbered s.to → All WellNumbered ps → All MarkNumbered (marks_from ds s ps)
unfolding marks_from spot_of MarkNumbered
marks_numbered ds s [] f t g = all_append MarkNumbered (cut_marks (cuts_on cuts_enough ds s)) (Corner s.to ∷ []) (cuts_numbered cuts_enough ds s f) (t, tt)
marks_numbered ds s (p ∷ ps) f t g =
    let on : Spot = turned_of (behind cuts_enough ds s) p in
    let b : WellNumbered (behind cuts_enough ds s).to = rw (behind_to cuts_enough ds s) t in
    all_append MarkNumbered (cut_marks (cuts_on cuts_enough ds s)) (Corner s.to ∷ marks_from ds on ps) (cuts_numbered cuts_enough ds s f) (t, marks_numbered ds on ps b g.0 g.1)

module _ (limit : Float) (p : List Float) (first i : ℕ) (closed : Bool) (ds : List Float) (b : Beat) where
  abbrev run : List Mark
  run = marks_of closed ds b (run_from limit p first i)

  -- all marks of the run are to come
  pub start_comes : comes limit p first ds (Some (first_feed p first i closed b)) ≡ run
  unfolding comes marks_of spot_of
  start_comes = refl

  start_numbered : 2 * i + 2 ≤ length p → first + length p < id_limit → All MarkNumbered run
  unfolding marks_of spot_of
  start_numbered at few =
      let g = run_counted limit p first i at few in
      marks_numbered ds _ _ g.0 g.1.0 (all_append WellNumbered (kept_behind limit (endpoint_at p first i) (drop (i + 1) (endpoints_of first p))) (cond closed (endpoint_at p first 0 ∷ []) []) g.1.1 (home closed g.0))
    where
      home : (c : Bool) → WellNumbered (endpoint_at p first 0) → All WellNumbered (cond c (endpoint_at p first 0 ∷ []) [])
      home true h = (h, tt)
      home false h = tt

  pub start_fits : 0 < length ds → 2 * i + 2 ≤ length p → first + length p < id_limit → b.index ≤ wear_limit → cut_count run ≤ cut_limit → FeedFits limit p first ds (Some (first_feed p first i closed b))
  unfolding spot_of
  start_fits some at few index cuts = record {
    some = some;
    point = omega arith;
    few = few;
    within = omega arith;
    cuts = rw start_comes cuts;
    index = rw start_comes (omega arith);
    numbered = rw start_comes (start_numbered at few);
  }
