-- A pass that only counts, and what it has seen of the run of the number k: `Seeing` goes on verb by verb, as `Going` does (Drawing). Assumes nothing.
use Prim.Native.Nat.{ℕ, ◌+◌, ◌≤◌, ◌<◌}
use mathlib.Core.Path.{◌≡◌, refl}
use mathlib.Core.Bool.{Bool, true, false, cond}
use mathlib.Core.List.{List, [], ◌∷◌, ◌++◌, append-nil}
use native.Mathlib.Omega.{arith}
use borrow.Author.Tests.{ltb-true, ltb-false, leb-true, leb-false}
use lib.Dec.{ltb, leb}
use lib.Ieee.{Float}
use lib.ListN.{length, take, get_or, length-append}
use lib.Seq.{take_all, take-append-le}
use Rattle.endpoint.specs.declared.Endpoint.{Endpoint}
use Rattle.pieces.specs.Piece.{Lists, Passes}
use Rattle.pieces.specs.declared.Place.{Place}
use Rattle.options.specs.declared.Stroke.{Stroke}
use Rattle.path.specs.Runs.{Run, runs_from}
use Rattle.path.specs.Verbs.{names}
use Rattle.cuts.specs.Runs.{cut_runs}
use Rattle.runs.specs.Runs.{cut_of, mesh_count}
use Rattle.runs.specs.Cursor.{undrawn, start_of, moved_of, current_of, ended_of}
use Rattle.runs.specs.Part.{seen_of, ended_with, noted_of, told_of}
use Rattle.runs.specs.declared.cursor.Cursor.{Cursor}
use Rattle.runs.specs.declared.part.Seen.{Seen}
use Rattle.runs.proofs.Passing.{Passing, moved_place, pass_none, pass_turn, pass_all}
use Rattle.runs.proofs.Drawing.{piece_of, runs_none, runs_both, Going}
use Rattle.runs.proofs.Runs.{length_vertices}

-- the vertices of runs as they are drawn
abbrev drawn_count : Stroke → List Float → List (Run Endpoint) → ℕ
drawn_count o ds rs = mesh_count o (cut_of o ds rs)

-- ---- one run more
module _ (o : Stroke) (ds : List Float) (k : ℕ) (done : List (Run Endpoint)) (r : Run Endpoint) where
  abbrev all : List (Run Endpoint)
  all = done ++ (r ∷ [])

  all_length : length all ≡ length done + 1
  all_length = simp length-append (omega arith)

  ended_is : ended_with (seen_of o ds k done) k (drawn_count o ds all) ≡ seen_of o ds k all
  unfolding ended_with
  ended_is = go (ltb (length done) k) refl (leb (length done) k) refl
    where
      goal : Bool → Bool → Type 0
      goal a b =
          cond {A = Seen} a (record { ended = length done + 1; before = drawn_count o ds all; through = drawn_count o ds all })
          (cond {A = Seen} b (record { ended = length done + 1; before = drawn_count o ds (take k done); through = drawn_count o ds all })
          (record { ended = length done + 1; before = drawn_count o ds (take k done); through = drawn_count o ds (take (k + 1) done) }))
          ≡ seen_of o ds k all

      go : (a : Bool) → ltb (length done) k ≡ a → (b : Bool) → leb (length done) k ≡ b → goal a b
      go true p b q =
          let h = ltb-true (length done) k p in
          rw (take_all k all (omega (arith, h, all_length)), take_all (k + 1) all (omega (arith, h, all_length)), all_length)
      go false p true q =
          let h = ltb-false (length done) k p in
          let e = leb-true (length done) k q in
          rw (take-append-le k done (r ∷ []) h, take_all (k + 1) all (omega (arith, e, all_length)), all_length)
      go false p false q =
          let h = leb-false (length done) k q in
          rw (take-append-le k done (r ∷ []) (omega (arith, h)), take-append-le (k + 1) done (r ∷ []) (omega (arith, h)), all_length)

-- ---- a verb, behind which all runs that are done and those that it ends are drawn
noted_is : (o : Stroke) (ds : List Float) (k : ℕ) (done : List (Run Endpoint)) (g : Cursor) (verb : ℕ) (ps : List Endpoint)
    → noted_of (seen_of o ds k done) k verb (drawn_count o ds (done ++ ended_of g verb ps)) ≡ seen_of o ds k (done ++ ended_of g verb ps)
unfolding noted_of ended_of
noted_is o ds k done g verb ps = go (names verb)
  where
    go : (t : Bool) → cond t (seen_of o ds k done) (ended_with (seen_of o ds k done) k (drawn_count o ds (done ++ cond t [] (current_of g verb ps ∷ [])))) ≡ seen_of o ds k (done ++ cond t [] (current_of g verb ps ∷ []))
    go true = rw (append-nil done)
    go false = ended_is o ds k done (current_of g verb ps)

ended_few : (g : Cursor) (verb : ℕ) (ps : List Endpoint) → length (ended_of g verb ps) ≤ 1
unfolding ended_of
ended_few g verb ps = go (names verb)
  where
    go : (t : Bool) → length {A = Run Endpoint} (cond t [] (current_of g verb ps ∷ [])) ≤ 1
    go true = omega arith
    go false = omega arith

-- ---- the pass
pub record Seeing (o : Stroke) (ds : List Float) (k : ℕ) (vs : List ℕ) (ps : List Endpoint) (l0 : Lists) (i : ℕ) (g : Cursor) (s : Seen) (l : Lists) : Type 0 where
  pub done : List (Run Endpoint)
  pub passing : Passing vs ps i g done
  pub puts : Passes false undrawn (piece_of o ds undrawn done) l0 l g.place
  pub seen : s ≡ seen_of o ds k done
  pub few : length done ≤ i

pub seeing_none : (o : Stroke) (ds : List Float) (k : ℕ) (vs : List ℕ) (ps : List Endpoint) (l : Lists) → Seeing o ds k vs ps l 0 start_of (record { ended = 0; before = 0; through = 0 }) l
unfolding cut_runs mesh_count
seeing_none o ds k vs ps l = record { done = []; passing = pass_none vs ps; puts = runs_none o ds; seen = rw (take_all {A = Run Endpoint} k [] (omega arith), take_all {A = Run Endpoint} (k + 1) [] (omega arith)); few = omega arith }

module _ {o : Stroke} {ds : List Float} {k : ℕ} {vs : List ℕ} {ps : List Endpoint} {l0 : Lists} {i : ℕ} {g : Cursor} {s : Seen} {l : Lists} (m : Seeing o ds k vs ps l0 i g s l) where
  pub going : Going false o ds vs ps l0 i g l
  going = record { done = m.done; passing = m.passing; puts = m.puts }

  pub seeing_turn : (h : i < length vs) {q : Place} {l1 : Lists} → Passes false g.place (piece_of o ds g.place (ended_of g (get_or vs i 0) ps)) l l1 q
      → Seeing o ds k vs ps l0 (i + 1) (moved_of g (get_or vs i 0) q) (noted_of s k (get_or vs i 0) q.vertices) l1
  seeing_turn h {q} e =
      let verb = get_or vs i 0 in
      let both = runs_both o ds m.done (ended_of g verb ps) m.puts e in
      let drawn : q.vertices ≡ drawn_count o ds (m.done ++ ended_of g verb ps) = rw both.place (omega (arith, length_vertices o (cut_of o ds (m.done ++ ended_of g verb ps)))) in
      record {
        done = m.done ++ ended_of g verb ps;
        passing = pass_turn vs ps i g m.done m.passing q h;
        puts = rw (moved_place g verb q ps) both;
        seen = rw (m.seen, drawn) (noted_is o ds k m.done g verb ps);
        few = simp length-append (omega (arith, m.few, ended_few g verb ps));
      }

  pub seeing_all : length vs ≤ i → record { place = g.place; seen = s } ≡ told_of o ds k (runs_from 0 vs ps)
  seeing_all h = let e = pass_all vs ps i g m.done m.passing h in rw (m.puts.place, m.seen, e)
