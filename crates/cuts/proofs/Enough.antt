-- How many cuts are looked for on an edge decides nothing: where a run has no more cuts than are accepted, by whatever limit of an edge that is not lower, it has the same
-- marks by every such limit (`marks_same`). The plan: an edge, and the spot behind its cuts; then a run, edge by edge; then a run whose first mark is a cut. Assumes nothing.
use Prim.Native.Nat.{ℕ, zero, suc, ◌+◌, ◌≤◌, ◌<◌}
use mathlib.Core.Path.{◌≡◌, refl, sym, ap, ◌∙◌}
use mathlib.Core.Bool.{Bool, true, false, cond}
use mathlib.Core.List.{List, [], ◌∷◌, ◌++◌}
use native.Mathlib.Numerals.{add-one}
use native.Mathlib.Omega.{arith}
use lib.Ieee.{Float}
use lib.ListN.{length}
use Rattle.endpoint.specs.declared.Endpoint.{Endpoint}
use Rattle.dashes.specs.Marks.{falls_on, cut_of, passed_of, turned_of, cuts_on, behind, cut_limit, cuts_enough, cut_marks, marks_from}
use Rattle.dashes.specs.declared.spot.Mark.{Mark}
use Rattle.dashes.specs.declared.spot.Mark.TheVariants.{Cut, Corner}
use Rattle.dashes.specs.declared.spot.Spot.{Spot}
use Rattle.cuts.specs.Cuts.{cut_count}
use Rattle.cuts.proofs.Counting.{count_append}

module _ (ds : List Float) where
  -- ---- an edge
  more_cuts : (n m : ℕ) (s : Spot) → length (cuts_on n ds s) < n → (cuts_on (n + m) ds s ≡ cuts_on n ds s) × (behind (n + m) ds s ≡ behind n ds s)
  unfolding cuts_on behind
  more_cuts zero m s h = absurd (omega arith)
  more_cuts (suc n) m s h = let e : suc n + m ≡ suc (n + m) = omega arith in rw e (go (falls_on s) h (more_cuts n m (passed_of ds s)))
    where
      go : (t : Bool) → length (cond t (cut_of s ∷ cuts_on n ds (passed_of ds s)) []) < suc n
          → (length (cuts_on n ds (passed_of ds s)) < n → (cuts_on (n + m) ds (passed_of ds s) ≡ cuts_on n ds (passed_of ds s)) × (behind (n + m) ds (passed_of ds s) ≡ behind n ds (passed_of ds s)))
          → (cond t (cut_of s ∷ cuts_on (n + m) ds (passed_of ds s)) [] ≡ cond t (cut_of s ∷ cuts_on n ds (passed_of ds s)) [])
          × (cond t (behind (n + m) ds (passed_of ds s)) s ≡ cond t (behind n ds (passed_of ds s)) s)
      go true h f = let e = f (omega arith) in (ap (λ (l : List Endpoint). cut_of s ∷ l) e.0, e.1)
      go false h f = (refl, refl)

  no_fewer : (n m : ℕ) (s : Spot) → length (cuts_on n ds s) ≤ length (cuts_on (n + m) ds s)
  unfolding cuts_on
  no_fewer zero m s = omega arith
  no_fewer (suc n) m s = let e : suc n + m ≡ suc (n + m) = omega arith in rw e (go (falls_on s) (no_fewer n m (passed_of ds s)))
    where
      go : (t : Bool) → length (cuts_on n ds (passed_of ds s)) ≤ length (cuts_on (n + m) ds (passed_of ds s))
          → length (cond t (cut_of s ∷ cuts_on n ds (passed_of ds s)) []) ≤ length (cond t (cut_of s ∷ cuts_on (n + m) ds (passed_of ds s)) [])
      go true h = omega arith
      go false h = omega arith

  -- ---- a run: its marks where n cuts at most are looked for on an edge
  unfoldable pub marks_within : ℕ → Spot → List Endpoint → List Mark
  marks_within n s [] = cut_marks (cuts_on n ds s) ++ Corner s.to ∷ []
  marks_within n s (p ∷ ps) = cut_marks (cuts_on n ds s) ++ Corner s.to ∷ marks_within n (turned_of (behind n ds s) p) ps

  -- those of the definition
  pub marks_within_lem : (s : Spot) (ps : List Endpoint) → marks_from ds s ps ≡ marks_within cuts_enough s ps
  unfolding marks_from marks_within
  marks_within_lem s [] = refl
  marks_within_lem s (p ∷ ps) = ap (λ (ms : List Mark). cut_marks (cuts_on cuts_enough ds s) ++ Corner s.to ∷ ms) (marks_within_lem (turned_of (behind cuts_enough ds s) p) ps)

  within_same : (n a b : ℕ) (s : Spot) (ps : List Endpoint) → cut_count (marks_within (n + a) s ps) < n → marks_within (n + b) s ps ≡ marks_within n s ps
  unfolding marks_within cut_count
  within_same n a b s [] h =
      let c = count_append (cuts_on (n + a) ds s) (Corner s.to ∷ []) in
      let few : length (cuts_on n ds s) < n = omega (arith, c, no_fewer n a s) in
      rw (more_cuts n b s few).0
  within_same n a b s (p ∷ ps) h =
      let c = count_append (cuts_on (n + a) ds s) (Corner s.to ∷ marks_within (n + a) (turned_of (behind (n + a) ds s) p) ps) in
      let few : length (cuts_on n ds s) < n = omega (arith, c, no_fewer n a s) in
      let next : Spot = turned_of (behind n ds s) p in
      let here = more_cuts n a s few in
      let less : cut_count (marks_within (n + a) (turned_of (behind (n + a) ds s) p) ps) < n = omega (arith, c) in
      let rest : marks_within (n + b) next ps ≡ marks_within n next ps = within_same n a b next ps (rw here.1 at less) in
      let there = more_cuts n b s few in
      rw (there.0, there.1, rest)

  pub marks_same : (a b : ℕ) (s : Spot) (ps : List Endpoint) → cut_count (marks_within (cuts_enough + a) s ps) ≤ cut_limit → marks_within (cuts_enough + b) s ps ≡ marks_from ds s ps
  marks_same a b s ps h = within_same cuts_enough a b s ps (omega arith) ∙ sym (marks_within_lem s ps)

  -- ---- past a cut, where the cuts are few
  next_cut_lem : (n : ℕ) (s on : Spot) (ps : List Endpoint) → cuts_on (suc n) ds s ≡ cut_of s ∷ cuts_on n ds on → behind (suc n) ds s ≡ behind n ds on → on.to ≡ s.to
      → cut_count (marks_within (suc n) s ps) ≤ n → marks_within (suc n) s ps ≡ Cut (cut_of s) ∷ marks_within (suc n) on ps
  unfolding marks_within cut_marks cut_count
  next_cut_lem n s on [] c b e h =
      let k : cut_count (cut_marks (cut_of s ∷ cuts_on n ds on) ++ Corner s.to ∷ []) ≤ n = rw c at h in
      let few : length (cuts_on n ds on) < n = omega (arith, k, count_append (cuts_on n ds on) (Corner s.to ∷ [])) in
      let m : cuts_on (suc n) ds on ≡ cuts_on n ds on = rw add-one at (more_cuts n 1 on few).0 in
      rw (c, m, e)
  next_cut_lem n s on (p ∷ ps) c b e h =
      let rest : List Mark = Corner s.to ∷ marks_within (suc n) (turned_of (behind n ds on) p) ps in
      let k : cut_count (cut_marks (cut_of s ∷ cuts_on n ds on) ++ rest) ≤ n = rw (c, b) at h in
      let few : length (cuts_on n ds on) < n = omega (arith, k, count_append (cuts_on n ds on) rest) in
      let m : cuts_on (suc n) ds on ≡ cuts_on n ds on = rw add-one at (more_cuts n 1 on few).0 in
      let l : behind (suc n) ds on ≡ behind n ds on = rw add-one at (more_cuts n 1 on few).1 in
      rw (c, b, m, l, e)

  cut_step : (n : ℕ) (s : Spot) → falls_on s ≡ true → (cuts_on (suc n) ds s ≡ cut_of s ∷ cuts_on n ds (passed_of ds s)) × (behind (suc n) ds s ≡ behind n ds (passed_of ds s))
  unfolding cuts_on behind
  cut_step n s h = (rw h, rw h)

  pub marks_cut : (s : Spot) (ps : List Endpoint) → falls_on s ≡ true → cut_count (marks_from ds s ps) ≤ cut_limit → marks_from ds s ps ≡ Cut (cut_of s) ∷ marks_from ds (passed_of ds s) ps
  unfolding passed_of
  marks_cut s ps h few =
      let step = cut_step cut_limit s h in
      let on = passed_of ds s in
      marks_within_lem s ps ∙ next_cut_lem cut_limit s on ps step.0 step.1 refl (rw (marks_within_lem s ps) at few) ∙ ap (λ (ms : List Mark). Cut (cut_of s) ∷ ms) (sym (marks_within_lem on ps))
