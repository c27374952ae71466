-- Counting a run's cuts: what is counted and what is to come is the same. The plan: the marks of an edge are its cuts and then what is to come (`count_marks`); an
-- edge, where the cuts are still few and where they are too many; a point, near or far; the points as far as j; a run. Assumes nothing.
use Prim.Native.Nat.{ℕ, zero, suc, ◌+◌, ◌*◌, ◌/◌, ◌≤◌, ◌<◌}
use mathlib.Core.Path.{◌≡◌, refl, sym, ap, ◌∙◌}
use mathlib.Core.Bool.{Bool, true, false, cond}
use mathlib.Core.List.{List, [], ◌∷◌, ◌++◌}
use native.Mathlib.Omega.{arith}
use lib.Ieee.{Float}
use lib.ListN.{length, take, drop, drop_of_length-le}
use Rattle.plane.specs.F32.{f32}
use Rattle.endpoint.specs.declared.Endpoint.{Endpoint}
use Rattle.kept.specs.Kept.{near, kept_behind, kept_points}
use Rattle.kept.specs.Looks.{FirstFar, Ended}
use Rattle.kept.specs.Points.{endpoints_of, endpoint_at}
use Rattle.kept.proofs.Indexed.{points_at, points_length}
use Rattle.kept.proofs.Further.{keep_near, keep_far}
use Rattle.kept.proofs.Looks.{kept_far, kept_alone, kept_ended}
use Rattle.dashes.specs.Counts.{EdgeCounted}
use Rattle.dashes.specs.Pattern.{wear_limit}
use Rattle.dashes.specs.Marks.{falls_on, passed_of, spot_of, turned_of, cuts_on, behind, cut_limit, cuts_enough, cut_marks, marks_from, marks_of}
use Rattle.dashes.specs.declared.spot.Mark.{Mark}
use Rattle.dashes.specs.declared.spot.Mark.TheVariants.{Corner}
use Rattle.dashes.specs.declared.pattern.Beat.{Beat}
use Rattle.dashes.specs.declared.spot.Spot.{Spot}
use Rattle.dashes.specs.declared.count.Passed.{Passed}
use Rattle.cuts.specs.Cuts.{cut_count, kept_cuts, capped_of}
use Rattle.cuts.specs.Counts.{Ready, Bounded, turned_at, to_come, goes_on, OnEdge, Visited, PointsCounted}
use Rattle.cuts.proofs.Capping.{capped_many, capped_most, capped_same, capped_exact, capped_add}

-- ---- the marks
pub count_append : (ps : List Endpoint) (ms : List Mark) → cut_count (cut_marks ps ++ ms) ≡ length ps + cut_count ms
unfolding cut_count cut_marks
count_append [] ms = omega arith
count_append (p ∷ ps) ms = omega (arith, count_append ps ms)

count_marks : (ds : List Float) (s : Spot) (ps : List Endpoint) → cut_count (marks_from ds s ps) ≡ length (cuts_on cuts_enough ds s) + to_come ds (behind cuts_enough ds s) ps
unfolding marks_from to_come cut_count
count_marks ds s [] = count_append (cuts_on cuts_enough ds s) (Corner s.to ∷ [])
count_marks ds s (p ∷ ps) = count_append (cuts_on cuts_enough ds s) (Corner s.to ∷ marks_from ds (turned_of (behind cuts_enough ds s) p) ps)

-- the cuts leave an edge's end as it is
pub behind_to : (n : ℕ) (ds : List Float) (s : Spot) → (behind n ds s).to ≡ s.to
unfolding behind passed_of
behind_to zero ds s = refl
behind_to (suc n) ds s = go (falls_on s) (behind_to n ds (passed_of ds s))
  where
    go : (t : Bool) → (behind n ds (passed_of ds s)).to ≡ s.to → (cond t (behind n ds (passed_of ds s)) s).to ≡ s.to
    go true h = h
    go false h = refl

-- ---- an edge
module _ (ds : List Float) (t : Passed) (b : Bounded t) where
  pub edge_few : (e : Passed) (n : ℕ) → t.count ≤ cut_limit → EdgeCounted ds t.spot e → n ≡ capped_of (t.count + e.count) → OnEdge ds t (record { spot = e.spot; count = n })
  edge_few e n h c g =
      record {
        bounded = record { few = omega (arith, g, capped_most (t.count + e.count)); index = numbered };
        to = ap (λ (s : Spot). s.to) c.spot ∙ behind_to cuts_enough ds t.spot;
        same = together;
      }
    where
      numbered : n ≤ cut_limit → e.spot.beat.index ≤ wear_limit + n
      numbered m =
          let l : capped_of (t.count + e.count) ≤ cut_limit = omega (arith, g) in
          omega (arith, c.index, b.index h, g, capped_exact (t.count + e.count) l)

      sum : (a k j x y m : ℕ) → m ≡ k + x → j ≡ k → x ≡ y → a + m ≡ a + j + y
      sum a k j x y m e f g = omega arith

      together : (rest : List Endpoint) → capped_of (t.count + cut_count (marks_from ds t.spot rest)) ≡ capped_of (n + to_come ds e.spot rest)
      together rest =
          let s = t.spot in
          let come : to_come ds (behind cuts_enough ds s) rest ≡ to_come ds e.spot rest = ap (λ (x : Spot). to_come ds x rest) (sym c.spot) in
          let all = sum t.count (length (cuts_on cuts_enough ds s)) e.count (to_come ds (behind cuts_enough ds s) rest) (to_come ds e.spot rest) (cut_count (marks_from ds s rest)) (count_marks ds s rest) c.count come in
          ap capped_of all ∙ sym (capped_add (t.count + e.count) (to_come ds e.spot rest)) ∙ ap (λ (x : ℕ). capped_of (x + to_come ds e.spot rest)) (sym g)

  pub edge_many : cut_limit < t.count → OnEdge ds t t
  edge_many h =
      record {
        bounded = b;
        to = refl;
        same = λ rest. capped_many (t.count + cut_count (marks_from ds t.spot rest)) (omega arith) ∙ sym (capped_many (t.count + to_come ds t.spot rest) (omega arith));
      }

  -- the next edge begins with the same cut
  pub turned_bounded : (p : Endpoint) → Bounded (turned_at t p)
  unfolding spot_of
  turned_bounded p = record { few = b.few; index = b.index }

-- ---- a point
module _ (limit : Float) (ds : List Float) (t : Passed) (p : Endpoint) where
  pub near_visited : Bounded t → near limit t.spot.to p ≡ true → Visited limit ds t p t
  near_visited b h = record { bounded = b; same = λ ps rest. rw (keep_near limit t.spot.to p ps h) }

  pub far_visited : (r : Passed) → near limit t.spot.to p ≡ false → OnEdge ds (turned_at t p) r → Visited limit ds t p r
  unfolding to_come spot_of
  far_visited r h c =
      record {
        bounded = c.bounded;
        same = λ ps rest.
            rw (keep_far limit t.spot.to p ps h)
            (c.same (kept_behind limit p ps ++ rest) ∙ ap (λ (q : Endpoint). goes_on ds r (kept_behind limit q ps ++ rest)) (sym c.to));
      }

-- ---- the points from i on, as far as j
module _ (limit : Float) (ds p : List Float) (first i : ℕ) (t : Passed) where
  pub record Counting (j : ℕ) (u : Passed) : Type 0 where
    pub reached : j ≤ length p / 2
    pub bounded : Bounded u
    pub same : (rest : List Endpoint)
        → goes_on ds t (kept_behind limit t.spot.to (drop i (endpoints_of first p)) ++ rest) ≡ goes_on ds u (kept_behind limit u.spot.to (drop j (endpoints_of first p)) ++ rest)

  pub counting_none : 2 * i ≤ length p → Bounded t → Counting i t
  counting_none h b = record { reached = omega arith; bounded = b; same = λ rest. refl }

  module _ (j : ℕ) (u : Passed) (w : Counting j u) where
    pub counting_all : length p / 2 ≤ j → PointsCounted limit ds p first i t u
    unfolding kept_behind
    counting_all h =
        let l : length (endpoints_of first p) ≤ j = omega (arith, points_length p first) in
        let d : drop j (endpoints_of first p) ≡ [] = drop_of_length-le (endpoints_of first p) l in
        record { bounded = w.bounded; same = λ rest. rw d at (w.same rest) }

    pub counting_one : (r : Passed) → j < length p / 2 → Visited limit ds u (endpoint_at p first j) r → Counting (j + 1) r
    counting_one r h e =
        let g : 2 * j + 2 ≤ length p = omega arith in
        record {
          reached = omega arith;
          bounded = e.bounded;
          same = λ rest. (rw (points_at p first j g) at (w.same rest)) ∙ e.same (drop (j + 1) (endpoints_of first p)) rest;
        }

-- ---- a run, behind n cuts
module _ (limit : Float) (ds : List Float) (b : Beat) (n : ℕ) (ready : Ready ds b n) where
  none : (closed : Bool) (p0 : Endpoint) → n ≡ capped_of (n + kept_cuts closed ds b (p0 ∷ []))
  unfolding marks_of cut_count
  none closed p0 = let z : n + 0 ≡ n = omega arith in sym (rw z (capped_same n ready.few))

  pub start_bounded : (a p : Endpoint) → Bounded (record { spot = spot_of a (f32 0) p b; count = n })
  unfolding spot_of
  start_bounded a p = record { few = ready.few; index = λ h. omega (arith, ready.first) }

  module _ (closed : Bool) (p : List Float) (first i : ℕ) (two : 2 ≤ length p) (f : FirstFar limit p first i) where
    abbrev all : List Endpoint
    all = kept_points limit false (endpoints_of first p)

    pub run_alone : length p / 2 ≤ i → n ≡ capped_of (n + kept_cuts closed ds b all)
    run_alone h = none closed (endpoint_at p first 0) ∙ ap (λ (ps : List Endpoint). capped_of (n + kept_cuts closed ds b ps)) (sym (kept_alone limit p first i two f h))

    -- through the points of p, and then through the rest
    module _ (l : i < length p / 2) (e t : Passed)
        (c : OnEdge ds (record { spot = spot_of (endpoint_at p first 0) (f32 0) (endpoint_at p first i) b; count = n }) e)
        (d : PointsCounted limit ds p first (i + 1) e t) where
      pub run_through : goes_on ds t (cond closed (endpoint_at p first 0 ∷ []) []) ≡ capped_of (n + kept_cuts closed ds b all)
      unfolding marks_of spot_of
      run_through =
          let p0 = endpoint_at p first 0 in
          let p1 = endpoint_at p first i in
          let ps = drop (i + 1) (endpoints_of first p) in
          let rest = cond closed (p0 ∷ []) [] in
          sym
          (ap (λ (x : List Endpoint). capped_of (n + kept_cuts closed ds b x)) (kept_far limit p first i two f l)
          ∙ c.same (kept_behind limit p1 ps ++ rest)
          ∙ ap (λ (q : Endpoint). goes_on ds e (kept_behind limit q ps ++ rest)) (sym c.to)
          ∙ d.same rest)

  -- a closed run's points behind its end are dropped
  module _ (p : List Float) (first : ℕ) where
    pub run_ended : (e m : ℕ) → 2 ≤ length p → Ended limit p first e → m ≡ capped_of (n + kept_cuts true ds b (kept_points limit false (endpoints_of first (take (2 * e) p))))
        → m ≡ capped_of (n + kept_cuts true ds b (kept_points limit true (endpoints_of first p)))
    run_ended e m two f c = c ∙ ap (λ (ps : List Endpoint). capped_of (n + kept_cuts true ds b ps)) (sym (kept_ended limit p first e two f))

    pub run_empty : (closed : Bool) → length p < 2 → n ≡ capped_of (n + kept_cuts closed ds b (kept_points limit closed (endpoints_of first p)))
    unfolding marks_of cut_count kept_points endpoints_of
    run_empty closed h = go p h
      where
        go : (p : List Float) → length p < 2 → n ≡ capped_of (n + kept_cuts closed ds b (kept_points limit closed (endpoints_of first p)))
        go [] h = let z : n + 0 ≡ n = omega arith in sym (rw z (capped_same n ready.few))
        go (x ∷ []) h = let z : n + 0 ≡ n = omega arith in sym (rw z (capped_same n ready.few))
        go (x ∷ y ∷ p) h = absurd (omega arith)

-- without and with the closing edge
module _ (ds : List Float) (t : Passed) where
  pub all_open : Bounded t → t.count ≡ goes_on ds t []
  unfolding to_come
  all_open b = let z : t.count + 0 ≡ t.count = omega arith in sym (rw z (capped_same t.count b.few))

  pub all_closed : (p0 : Endpoint) (r : Passed) → OnEdge ds (turned_at t p0) r → r.count ≡ goes_on ds t (p0 ∷ [])
  unfolding to_come
  all_closed p0 r c =
      let z : r.count + 0 ≡ r.count = omega arith in
      sym (rw z (capped_same r.count c.bounded.few)) ∙ sym (c.same [])
