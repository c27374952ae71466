-- A pass over bytes, part by part: what a byte changes, and where the pass ends. Assumes nothing.
use Prim.Native.Nat.{ℕ, ◌+◌, ◌≤◌, ◌<◌}
use mathlib.Core.Path.{◌≡◌, refl, sym, ap, ◌∙◌}
use mathlib.Core.Bool.{Bool, true, false, cond}
use mathlib.Core.List.{List, [], ◌∷◌, ◌++◌}
use native.Mathlib.Numerals.{add-one}
use native.Mathlib.Omega.{arith}
use lib.Ieee.{Float}
use lib.ListN.{length, drop, get_or}
use lib.Seq.{drop-cons}
use Rattle.form.specs.Machine.{is_lost}
use Rattle.lists.proofs.Laws.{length_put}
use Rattle.values.specs.declared.state.Called.{Called}
use Rattle.values.specs.State.{called_of, step_of}
use Rattle.reader.specs.declared.pass.Passage.{Passage}
use Rattle.reader.specs.Answer.{text_limit}
use Rattle.reader.specs.Counts.{verb_of, coords_at, all_places}
use Rattle.reader.specs.Pass.{Sheet, event_put, called_put, set_out, is_over, Passed, sheet_of, stepped, pass_of}

-- the lists keep their lengths
called_verbs : (h : Sheet) (k : Called) (t : Bool) → length (called_put h k t).verbs ≡ length h.verbs
called_verbs h k true = length_put h.counts.verbs (verb_of k.number) h.verbs
called_verbs h k false =
    let g = event_put h k.number in
    length_put g.counts.verbs (verb_of k.letter) g.verbs ∙ length_put h.counts.verbs (verb_of k.number) h.verbs

called_coords : (h : Sheet) (k : Called) (t : Bool) → length (called_put h k t).coords ≡ length h.coords
called_coords h k true = length_put h.counts.coords (coords_at k.number) h.coords
called_coords h k false =
    let g = event_put h k.number in
    length_put g.counts.coords (coords_at k.letter) g.coords ∙ length_put h.counts.coords (coords_at k.number) h.coords

module _ (w : Passed) (b : ℕ) where
  abbrev place : ℕ
  place = w.passage.place

  abbrev called : Called
  called = called_of w.passage.state b place (place + 1)

  abbrev lost : Bool
  lost = is_lost (step_of w.passage.state b place).mode

  pub stepped_verbs : length (stepped w b).verbs ≡ length w.verbs
  unfolding stepped
  stepped_verbs = called_verbs (sheet_of w) called lost

  pub stepped_coords : length (stepped w b).coords ≡ length w.coords
  unfolding stepped
  stepped_coords = called_coords (sheet_of w) called lost

  pub stepped_place : (stepped w b).passage.place ≤ place + 1
  unfolding stepped
  stepped_place = go lost
    where
      go : (t : Bool) → cond t place (place + 1) ≤ place + 1
      go true = omega arith
      go false = omega arith

-- behind a byte that is out of form nothing is passed
pub pass_over : (w : Passed) (bs : List ℕ) → is_over w.passage ≡ true → pass_of w bs ≡ w
pass_over w [] e = refl
pass_over w (b ∷ bs) e = ap (λ t. pass_of (cond t w (stepped w b)) bs) e ∙ pass_over w bs e

pub pass_on : (w : Passed) (b : ℕ) (bs : List ℕ) → is_over w.passage ≡ false → pass_of w (b ∷ bs) ≡ pass_of (stepped w b) bs
pass_on w b bs e = ap (λ t. pass_of (cond t w (stepped w b)) bs) e

-- a text in two parts
pub pass_append : (w : Passed) (s r : List ℕ) → pass_of w (s ++ r) ≡ pass_of (pass_of w s) r
pass_append w [] r = refl
pass_append w (b ∷ s) r = pass_append (cond (is_over w.passage) w (stepped w b)) s r

-- a place goes on by one to a byte at most
pub pass_place : (w : Passed) (bs : List ℕ) → (pass_of w bs).passage.place ≤ w.passage.place + length bs
pass_place w [] = omega arith
pass_place w (b ∷ bs) = go (is_over w.passage) (pass_place w bs) (pass_place (stepped w b) bs)
  where
    go : (t : Bool) → (pass_of w bs).passage.place ≤ w.passage.place + length bs → (pass_of (stepped w b) bs).passage.place ≤ (stepped w b).passage.place + length bs
        → (pass_of (cond t w (stepped w b)) bs).passage.place ≤ w.passage.place + length (b ∷ bs)
    go true p q = omega arith
    go false p q = omega (arith, stepped_place w b)

-- behind a text there is a place for its end
pub end_room : (v : List ℕ) (c : List Float) (s : List ℕ) (p : Passage) (u : Passed) → p ≡ set_out → u ≡ pass_of (record { passage = p; verbs = v; coords = c }) s → length s ≤ text_limit
    → u.passage.place + 1 ≤ all_places
end_room v c s p u ep eu h =
    let i = ap (λ (x : Passage). x.place) ep in
    let k = ap (λ (x : Passed). x.passage.place) eu in
    omega (arith, i, k, pass_place (record { passage = p; verbs = v; coords = c }) s)

-- How far the loop has come: what was to come is still to come.
pub record Passes (text v0 : List ℕ) (c0 : List Float) (p0 : Passage) (v : List ℕ) (c : List Float) (p : Passage) (i : ℕ) : Type 0 where
  pub within : i ≤ length text
  pub ahead : pass_of (record { passage = p; verbs = v; coords = c }) (drop i text) ≡ pass_of (record { passage = p0; verbs = v0; coords = c0 }) text
  pub places : p.place ≤ p0.place + i
  pub same_verbs : length v ≡ length v0
  pub same_coords : length c ≡ length c0

module _ (text v0 : List ℕ) (c0 : List Float) (p0 : Passage) where
  module _ (v : List ℕ) (c : List Float) (p : Passage) (i : ℕ) (g : Passes text v0 c0 p0 v c p i) where
    abbrev w : Passed
    w = record { passage = p; verbs = v; coords = c }

    pub passes_turn : (d : ℕ) (u : Passed) → i < length text → is_over p ≡ false → u ≡ stepped w (get_or text i d) → Passes text v0 c0 p0 u.verbs u.coords u.passage (i + 1)
    passes_turn d u h e s =
        let b = get_or text i d in
        let split : drop i text ≡ b ∷ drop (i + 1) text = rw (add-one, drop-cons text i d h) in
        let pl : u.passage.place ≡ (stepped w b).passage.place = ap (λ (x : Passed). x.passage.place) s in
        record {
          within = omega arith;
          ahead = ap (λ x. pass_of x (drop (i + 1) text)) s ∙ sym (pass_on w b (drop (i + 1) text) e) ∙ ap (λ l. pass_of w l) (sym split) ∙ g.ahead;
          places = omega (arith, g.places, pl, stepped_place w b);
          same_verbs = ap (λ (x : Passed). length x.verbs) s ∙ stepped_verbs w b ∙ g.same_verbs;
          same_coords = ap (λ (x : Passed). length x.coords) s ∙ stepped_coords w b ∙ g.same_coords;
        }

    pub passes_over : is_over p ≡ true → w ≡ pass_of (record { passage = p0; verbs = v0; coords = c0 }) text
    passes_over e = sym (pass_over w (drop i text) e) ∙ g.ahead
