-- The looks for the second and for the last kept point, and what they say of the kept points. The plan: `Ending` says how far the look for the last has come, from
-- its start over one point a turn to its end; behind it, what a run keeps by what either look found. Assumes nothing.
use Prim.Native.Nat.{ℕ, suc, ◌+◌, ◌-◌, ◌*◌, ◌/◌, ◌<◌, ◌≤◌}
use mathlib.Core.Path.{◌≡◌, refl, sym, ap, ◌∙◌}
use mathlib.Core.Bool.{Bool, true, false, cond}
use mathlib.Core.List.{List, [], ◌∷◌, ◌++◌, append-nil}
use native.Mathlib.Omega.{arith}
use lib.ListN.{length, take, drop, length-drop, drop_of_length-le}
use lib.Seq.{take-suc, get_or-drop, take_all}
use lib.Ieee.{Float}
use Rattle.endpoint.specs.declared.Endpoint.{Endpoint}
use Rattle.kept.specs.Kept.{near, kept_behind, trimmed, kept_points}
use Rattle.kept.specs.declared.Look.{Look}
use Rattle.kept.specs.Points.{endpoints_of, endpoint_at}
use Rattle.kept.specs.Looks.{FirstFar, looked_of, Ended, run_from}
use Rattle.kept.proofs.Indexed.{points_at, points_length, points_get, points_take, points_first}
use Rattle.kept.proofs.Further.{keep_far, last_kept, last_more, trim_near, trim_far}

module _ (limit : Float) where
  -- how far the look for the last point left of a closed run has come
  pub record Ending (p : List Float) (first : ℕ) (l : Look) (i : ℕ) : Type 0 where
    pub from : 1 ≤ i
    pub within : i ≤ length p / 2
    pub least : 1 ≤ l.end
    pub below : l.end ≤ i
    pub last : l.last ≡ last_kept limit (endpoint_at p first 0) (take (i - 1) (drop 1 (endpoints_of first p)))
    pub trim : trimmed limit (endpoint_at p first 0) (kept_behind limit (endpoint_at p first 0) (take (i - 1) (drop 1 (endpoints_of first p)))) ≡ kept_behind limit (endpoint_at p first 0) (take (l.end - 1) (drop 1 (endpoints_of first p)))

  pub ending_none : (p : List Float) (first : ℕ) → 2 ≤ length p → Ending p first (record { last = endpoint_at p first 0; end = 1 }) 1
  unfolding last_kept kept_behind trimmed
  ending_none p first h = record { from = omega arith; within = omega arith; least = omega arith; below = omega arith; last = refl; trim = refl }

  take_next : (p : List Float) (first i : ℕ) → 1 ≤ i → i < length p / 2 → take (i + 1 - 1) (drop 1 (endpoints_of first p)) ≡ take (i - 1) (drop 1 (endpoints_of first p)) ++ endpoint_at p first i ∷ []
  take_next p first i f h =
      let n : i + 1 - 1 ≡ suc (i - 1) = omega arith in
      let m : 1 + (i - 1) ≡ i = omega arith in
      let l : i - 1 < length (drop 1 (endpoints_of first p)) = simp length-drop (omega (arith, points_length p first)) in
      let g : 2 * i + 2 ≤ length p = omega arith in
      rw (n, take-suc (drop 1 (endpoints_of first p)) (i - 1) (endpoint_at p first i) l, get_or-drop 1 (endpoints_of first p) (i - 1) (endpoint_at p first i), m, points_get p first i (endpoint_at p first i) g)

  pub ending_turn : (p : List Float) (first : ℕ) (l : Look) (i : ℕ) → i < length p / 2 → Ending p first l i → Ending p first (looked_of limit l (endpoint_at p first 0) (endpoint_at p first i) i) (i + 1)
  unfolding looked_of
  ending_turn p first l i h e = go (near limit l.last c) refl (near limit o c) refl
    where
      o : Endpoint
      o = endpoint_at p first 0

      c : Endpoint
      c = endpoint_at p first i

      xs : List Endpoint
      xs = take (i - 1) (drop 1 (endpoints_of first p))

      t : take (i + 1 - 1) (drop 1 (endpoints_of first p)) ≡ xs ++ c ∷ []
      t = take_next p first i e.from h

      more : (a : Bool) → near limit l.last c ≡ a → (last_kept limit o (xs ++ c ∷ []) ≡ cond a (last_kept limit o xs) c) × (kept_behind limit o (xs ++ c ∷ []) ≡ kept_behind limit o xs ++ cond a [] (c ∷ []))
      more a q = last_more limit a o xs c (ap (λ (u : Endpoint). near limit u c) (sym e.last) ∙ q)

      turned : (l' : Look) → (1 ≤ l'.end) × (l'.end ≤ i + 1) → l'.last ≡ last_kept limit o (xs ++ c ∷ [])
          → trimmed limit o (kept_behind limit o (xs ++ c ∷ [])) ≡ kept_behind limit o (take (l'.end - 1) (drop 1 (endpoints_of first p))) → Ending p first l' (i + 1)
      turned l' b s m = record { from = omega arith; within = omega arith; least = b.0; below = b.1; last = rw t s; trim = rw t m }

      go : (a : Bool) → near limit l.last c ≡ a → (b : Bool) → near limit o c ≡ b → Ending p first (cond a l (record { last = c; end = cond b l.end (i + 1) })) (i + 1)
      go true q b r = turned l (omega (arith, e.least, e.below)) (e.last ∙ sym (more true q).0) (rw ((more true q).1, append-nil) e.trim)
      go false q true r = turned (record { last = c; end = l.end }) (omega (arith, e.least, e.below)) (sym (more false q).0) (rw (more false q).1 (trim_near limit o (kept_behind limit o xs) c r ∙ e.trim))
      go false q false r = turned (record { last = c; end = i + 1 }) (omega arith) (sym (more false q).0) (rw ((more false q).1, t, (more false q).1) (trim_far limit o (kept_behind limit o xs) c r))

  pub ending_all : (p : List Float) (first : ℕ) (l : Look) (i : ℕ) → length p / 2 ≤ i → Ending p first l i → Ended limit p first l.end
  ending_all p first l i h e =
      let m : length (drop 1 (endpoints_of first p)) ≤ i - 1 = simp length-drop (omega (arith, points_length p first)) in
      record { least = e.least; within = omega (arith, e.below, e.within); trim = rw (take_all (i - 1) (drop 1 (endpoints_of first p)) m) at e.trim }

  -- ---- the kept points
  kept_cons : (a : Endpoint) (ps : List Endpoint) → kept_points limit false (a ∷ ps) ≡ a ∷ kept_behind limit a ps
  unfolding kept_points
  kept_cons a ps = refl

  -- the second kept point is the first that is far
  pub kept_far : (p : List Float) (first i : ℕ) → 2 ≤ length p → FirstFar limit p first i → i < length p / 2 → kept_points limit false (endpoints_of first p) ≡ run_from limit p first i
  kept_far p first i h f l =
      let g : 2 * i + 2 ≤ length p = omega arith in
      ap (kept_points limit false) (points_first p first h) ∙ kept_cons (endpoint_at p first 0) (drop 1 (endpoints_of first p))
      ∙ rw (f.kept, points_at p first i g, keep_far limit (endpoint_at p first 0) (endpoint_at p first i) (drop (i + 1) (endpoints_of first p)) (f.far l))

  -- no second point is kept
  pub kept_alone : (p : List Float) (first i : ℕ) → 2 ≤ length p → FirstFar limit p first i → length p / 2 ≤ i → kept_points limit false (endpoints_of first p) ≡ endpoint_at p first 0 ∷ []
  unfolding kept_points kept_behind
  kept_alone p first i h f l =
      let g : length (endpoints_of first p) ≤ i = omega (arith, points_length p first) in
      let d : drop i (endpoints_of first p) ≡ [] = drop_of_length-le (endpoints_of first p) g in
      ap (kept_points limit false) (points_first p first h) ∙ ap (λ (l : List Endpoint). endpoint_at p first 0 ∷ l) (f.kept ∙ rw d)

  -- a closed run keeps what an open run of its first points keeps
  pub kept_ended : (p : List Float) (first e : ℕ) → 2 ≤ length p → Ended limit p first e → kept_points limit true (endpoints_of first p) ≡ kept_points limit false (endpoints_of first (take (2 * e) p))
  unfolding kept_points
  kept_ended p first e h f =
      let n : e ≡ suc (e - 1) = omega (arith, f.least) in
      let c : take e (endpoints_of first p) ≡ endpoint_at p first 0 ∷ take (e - 1) (drop 1 (endpoints_of first p)) =
      ap (take e) (points_first p first h) ∙ ap (λ (m : ℕ). take m (endpoint_at p first 0 ∷ drop 1 (endpoints_of first p))) n in
      ap (kept_points limit true) (points_first p first h) ∙ ap (λ (l : List Endpoint). endpoint_at p first 0 ∷ l) f.trim ∙ sym (ap (kept_points limit false) (points_take e first p ∙ c))
