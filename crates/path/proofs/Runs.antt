-- A path whose verbs are well placed is its runs: each a begin, lines and an end, with a point to its begin and to each line. Assumes nothing.
use Prim.Native.Nat.{ℕ, zero, suc, ◌+◌, ◌-◌}
use mathlib.Core.Path.{◌≡◌, refl, sym, ap, ◌∙◌}
use mathlib.Core.Bool.{Bool, true, false, true≢false}
use mathlib.Core.List.{List, [], ◌∷◌, ◌++◌}
use native.Mathlib.Omega.{arith}
use native.Mathlib.Numerals.{add-one}
use lib.ListN.{length, take, drop, replicate, take-append-drop, length-append, length-drop}
use lib.Seq.{length-take-le}
use borrow.Author.Tests.{ne_eqb}
use Rattle.path.specs.Verbs.{begin, line, names, named, placed, first_misplaced, ends_inside, point_count}
use Rattle.path.specs.Runs.{end_of, Formed, done, begins, goes, ends, Run, runs_from, verbs_of, points_of}
use Rattle.path.proofs.Placing.{placed_unknown}

abbrev in_run : ℕ → Bool
in_run zero = false
in_run (suc k) = true

not_placed : (inside : Bool) (v : ℕ) (vs : List ℕ) → placed inside v ≡ false → first_misplaced inside (v ∷ vs) ≡ suc (length vs) → ⊥
unfolding first_misplaced
not_placed inside v vs f p = let q : ◌≡◌ {A = ℕ} 0 (suc (length vs)) = rw f at p in omega arith

-- what the checks tell is the form
formed_from : (n : ℕ) (vs : List ℕ) → first_misplaced (in_run n) vs ≡ length vs → ends_inside (in_run n) vs ≡ false → Formed n vs
unfolding names placed first_misplaced ends_inside
formed_from zero [] p e = done
formed_from (suc k) [] p e = absurd (true≢false e)
formed_from zero (zero ∷ vs) p e = begins (formed_from 1 vs (omega arith) e)
formed_from zero (suc v ∷ vs) p e = absurd (not_placed false (suc v) vs (ne_eqb (suc v) begin (λ z. omega arith)) p)
formed_from (suc k) (zero ∷ vs) p e = absurd (omega arith)
formed_from (suc k) (suc zero ∷ vs) p e = goes (formed_from (suc (suc k)) vs (omega arith) e)
formed_from (suc k) (suc (suc zero) ∷ vs) p e = ends false (formed_from 0 vs (omega arith) e)
formed_from (suc k) (suc (suc (suc zero)) ∷ vs) p e = ends true (formed_from 0 vs (omega arith) e)
formed_from (suc k) (suc (suc (suc (suc v))) ∷ vs) p e = absurd (not_placed true (suc (suc (suc (suc v)))) vs (sym (placed_unknown true (suc (suc (suc (suc v)))) (omega arith))) p)

-- and back
placed_from : {n : ℕ} {vs : List ℕ} → Formed n vs → (first_misplaced (in_run n) vs ≡ length vs) × (ends_inside (in_run n) vs ≡ false)
unfolding names placed first_misplaced ends_inside
placed_from done = (refl, refl)
placed_from (begins f) = let g = placed_from f in (ap suc g.0, g.1)
placed_from (goes f) = let g = placed_from f in (ap suc g.0, g.1)
placed_from (ends true f) = let g = placed_from f in (ap suc g.0, g.1)
placed_from (ends false f) = let g = placed_from f in (ap suc g.0, g.1)

module _ (vs : List ℕ) where
  pub formed : first_misplaced false vs ≡ length vs → ends_inside false vs ≡ false → Formed 0 vs
  formed = formed_from 0 vs

  -- no list of runs is refused for its verbs
  pub formed_placed : Formed 0 vs → (first_misplaced false vs ≡ length vs) × (ends_inside false vs ≡ false)
  formed_placed f = placed_from f

-- the verbs of a run of which n points are named
begun : ℕ → List ℕ
begun zero = []
begun (suc k) = begin ∷ replicate k line

line_last : (k : ℕ) (ws : List ℕ) → line ∷ (replicate k line ++ ws) ≡ replicate k line ++ (line ∷ ws)
line_last zero ws = refl
line_last (suc k) ws = ap (λ (l : List ℕ). line ∷ l) (line_last k ws)

count_end : (closed : Bool) (vs : List ℕ) → point_count (end_of closed ∷ vs) ≡ point_count vs
unfolding names named point_count
count_end true vs = omega arith
count_end false vs = omega arith

module _ {A : Type 0} where
  run_end : (n : ℕ) (closed : Bool) (vs : List ℕ) (ps : List A) → runs_from n (end_of closed ∷ vs) ps ≡ record { closed = closed; points = take n ps } ∷ runs_from 0 vs (drop n ps)
  unfolding names runs_from
  run_end n true vs ps = refl
  run_end n false vs ps = refl

  -- an ended run has its points, and leaves those of the rest
  module _ (k : ℕ) (closed : Bool) (vs : List ℕ) (ps : List A) (l : length ps ≡ suc k + point_count (end_of closed ∷ vs)) where
    own : length (take (suc k) ps) ≡ suc k
    own = length-take-le (suc k) ps (omega arith)

    rest : length (drop (suc k) ps) ≡ 0 + point_count vs
    rest = simp length-drop (omega (arith, count_end closed vs))

  verbs_from : {n : ℕ} {vs : List ℕ} → Formed n vs → (ps : List A) → length ps ≡ n + point_count vs → verbs_of (runs_from n vs ps) ≡ begun n ++ vs
  unfolding names named point_count runs_from verbs_of begun
  verbs_from done ps l = refl
  verbs_from (begins f) ps l = verbs_from f ps (omega arith)
  verbs_from (goes {k} {vs} f) ps l = rw add-one (verbs_from f ps (omega arith) ∙ ap (λ (l : List ℕ). begin ∷ l) (line_last k vs))
  verbs_from (ends {k} {vs} closed f) ps l =
      let lines : length (take (suc k) ps) - 1 ≡ k = omega (arith, own k closed vs ps l) in
      rw (run_end (suc k) closed vs ps, lines, verbs_from f (drop (suc k) ps) (rest k closed vs ps l))

  points_from : {n : ℕ} {vs : List ℕ} → Formed n vs → (ps : List A) → length ps ≡ n + point_count vs → points_of (runs_from n vs ps) ≡ ps
  unfolding names named point_count runs_from points_of
  points_from done [] l = refl
  points_from done (p ∷ ps) l = absurd (omega arith)
  points_from (begins f) ps l = points_from f ps (omega arith)
  points_from (goes f) ps l = rw add-one (points_from f ps (omega arith))
  points_from (ends {k} {vs} closed f) ps l =
      rw (run_end (suc k) closed vs ps, points_from f (drop (suc k) ps) (rest k closed vs ps l)) (take-append-drop (suc k) ps)

  -- the runs of a path with well placed verbs and as many points as these name: its verbs, in order; its points, in order
  module _ (vs : List ℕ) (f : Formed 0 vs) (ps : List A) (l : length ps ≡ point_count vs) where
    pub runs_verbs : verbs_of (runs_from 0 vs ps) ≡ vs
    unfolding begun
    runs_verbs = verbs_from f ps (omega arith)

    pub runs_points : points_of (runs_from 0 vs ps) ≡ ps
    runs_points = points_from f ps (omega arith)

-- the points of runs, in two parts
pub points_append : {A : Type 0} (xs ys : List (Run A)) → length (points_of (xs ++ ys)) ≡ length (points_of xs) + length (points_of ys)
unfolding points_of
points_append [] ys = omega arith
points_append (x ∷ xs) ys = simp length-append (omega (arith, points_append xs ys))
