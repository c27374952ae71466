-- A pass over the verbs: the runs that are done and those to come are the path's runs. The plan: what one verb does to the cursor, by whether it names a point; then
-- `Passing` from the start over a verb to the end. Assumes nothing.
use Prim.Native.Nat.{ℕ, ◌+◌, ◌≤◌, ◌<◌}
use mathlib.Core.Path.{◌≡◌, refl, sym, ap, ◌∙◌}
use mathlib.Core.Bool.{Bool, true, false, cond}
use mathlib.Core.List.{List, [], ◌∷◌, ◌++◌, append_assoc, append-nil}
use native.Mathlib.Omega.{arith}
use native.Mathlib.Numerals.{add-one}
use lib.ListN.{length, take, drop, get_or, length-append, length-take, drop_of_length-le}
use lib.Seq.{drop-drop, drop-cons}
use Rattle.endpoint.specs.Endpoint.{endpoint_after}
use Rattle.endpoint.specs.declared.Endpoint.{Endpoint}
use Rattle.plane.specs.Normal.{pick}
use Rattle.pieces.specs.declared.Place.{Place}
use Rattle.path.specs.Runs.{Run, runs_from, points_of}
use Rattle.path.specs.Verbs.{names, named, point_count}
use Rattle.path.proofs.Runs.{points_append}
use Rattle.runs.specs.Cursor.{start_of, moved_of, current_of, ended_of}
use Rattle.runs.specs.declared.cursor.Cursor.{Cursor}

pub record Passing (vs : List ℕ) (ps : List Endpoint) (i : ℕ) (g : Cursor) (done : List (Run Endpoint)) : Type 0 where
  pub split : done ++ runs_from g.size (drop i vs) (drop g.first.0 ps) ≡ runs_from 0 vs ps
  pub points : g.first.0 + g.size + point_count (drop i vs) ≡ point_count vs
  pub few : length (points_of done) ≤ g.first.0

pub pass_none : (vs : List ℕ) (ps : List Endpoint) → Passing vs ps 0 start_of []
unfolding points_of
pass_none vs ps = record { split = refl; points = omega arith; few = omega arith }

-- ---- one verb, behind which k is drawn
module _ (g : Cursor) (v : ℕ) (k : Place) (ps : List Endpoint) where
  abbrev goes_to : Bool → Cursor
  goes_to t = cond {A = Cursor} t (record { first = g.first; size = g.size + 1; place = k }) (record { first = endpoint_after g.first g.size; size = 0; place = k })

  pub moved_place : (moved_of g v k).place ≡ k
  unfolding moved_of
  moved_place = go (names v)
    where
      go : (t : Bool) → (goes_to t).place ≡ k
      go true = refl
      go false = refl

  come_next : (vs : List ℕ) → runs_from g.size (v ∷ vs) (drop g.first.0 ps) ≡ ended_of g v ps ++ runs_from (moved_of g v k).size vs (drop (moved_of g v k).first.0 ps)
  unfolding runs_from ended_of moved_of
  come_next vs = go (names v)
    where
      go : (t : Bool) → pick t (runs_from (g.size + 1) vs (drop g.first.0 ps)) (current_of g v ps ∷ runs_from 0 vs (drop g.size (drop g.first.0 ps)))
          ≡ cond t [] (current_of g v ps ∷ []) ++ runs_from (goes_to t).size vs (drop (goes_to t).first.0 ps)
      go true = refl
      go false = rw drop-drop

  moved_points : (moved_of g v k).first.0 + (moved_of g v k).size ≡ g.first.0 + g.size + named v
  unfolding moved_of named
  moved_points = go (names v)
    where
      go : (t : Bool) → (goes_to t).first.0 + (goes_to t).size ≡ g.first.0 + g.size + pick t 1 0
      go true = omega arith
      go false = omega arith

  ended_few : g.first.0 + length (points_of (ended_of g v ps)) ≤ (moved_of g v k).first.0
  unfolding moved_of ended_of points_of
  ended_few = go (names v)
    where
      one : length (take g.size (drop g.first.0 ps) ++ []) ≤ g.size
      one = simp (length-append, length-take) (omega arith)

      go : (t : Bool) → g.first.0 + length (points_of (cond t [] (current_of g v ps ∷ []))) ≤ (goes_to t).first.0
      go true = omega arith
      go false = omega (arith, one)

count_cons : (v : ℕ) (vs : List ℕ) → point_count (v ∷ vs) ≡ named v + point_count vs
unfolding point_count
count_cons v vs = refl

verb_next : (vs : List ℕ) (i : ℕ) → i < length vs → drop i vs ≡ get_or vs i 0 ∷ drop (i + 1) vs
verb_next vs i h = rw add-one (drop-cons vs i 0 h)

module _ (vs : List ℕ) (ps : List Endpoint) (i : ℕ) (g : Cursor) (done : List (Run Endpoint)) (p : Passing vs ps i g done) where
  module _ (k : Place) (h : i < length vs) where
    abbrev next : Cursor
    next = moved_of g (get_or vs i 0) k

    -- the runs that are done, those that the next verb ends, and the rest
    pub pass_split : runs_from 0 vs ps ≡ done ++ (ended_of g (get_or vs i 0) ps ++ runs_from next.size (drop (i + 1) vs) (drop next.first.0 ps))
    pass_split = sym p.split ∙ ap (λ (l : List (Run Endpoint)). done ++ l) (rw (verb_next vs i h) (come_next g (get_or vs i 0) k ps (drop (i + 1) vs)))

    pub pass_turn : Passing vs ps (i + 1) (moved_of g (get_or vs i 0) k) (done ++ ended_of g (get_or vs i 0) ps)
    pass_turn =
        let v = get_or vs i 0 in
        let c : point_count (drop i vs) ≡ named v + point_count (drop (i + 1) vs) = rw (verb_next vs i h) (count_cons v (drop (i + 1) vs)) in
        record {
          split = append_assoc done (ended_of g v ps) (runs_from next.size (drop (i + 1) vs) (drop next.first.0 ps)) ∙ sym pass_split;
          points = omega (arith, p.points, moved_points g v k ps);
          few = omega (arith, points_append done (ended_of g v ps), p.few, ended_few g v k ps);
        }

  pub pass_all : length vs ≤ i → done ≡ runs_from 0 vs ps
  unfolding runs_from
  pass_all h = let e : drop i vs ≡ [] = drop_of_length-le vs h in sym (append-nil done) ∙ rw e at p.split
