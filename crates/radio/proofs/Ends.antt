-- Which of the events that bytes call for ended before a place: none that begins behind it, and of the others those before the first number that is too
-- large. Assumes nothing.
use Prim.Native.Nat.{ℕ, ◌+◌, ◌≤◌, ◌<◌, min}
use mathlib.Core.Path.{◌≡◌, refl, sym, ap, ◌∙◌, subst}
use mathlib.Core.Bool.{Bool, true, false, cond}
use mathlib.Core.List.{List, [], ◌∷◌, ◌++◌}
use native.Mathlib.Omega.{arith}
use borrow.Author.Tests.{le-leb, lt-leb}
use lib.Ieee.{Float}
use lib.ListN.{length}
use Rattle.form.specs.declared.classes.Class.{Class}
use Rattle.form.specs.declared.classes.Class.TheVariants.{Blank, Comma, Sign, Digit, Dot, Command, Other}
use Rattle.form.specs.declared.classes.Letter.{Letter}
use Rattle.form.specs.declared.classes.Letter.TheVariants as letters
use Rattle.form.specs.declared.machine.Mode.{Mode}
use Rattle.form.specs.Bytes.{class_of}
use Rattle.form.specs.Machine.{ends_point, ends_before, axis_at, is_inside, next_of, final, is_lost}
use Rattle.form.proofs.Taken.{never}
use Rattle.form.proofs.Place.{lost_final}
use Rattle.values.specs.declared.events.Event.{Event}
use Rattle.values.specs.declared.events.Event.TheVariants.{Nothing, Begin, Line, EndOpen, EndClosed, Beyond}
use Rattle.values.specs.declared.known.Known.{Known}
use Rattle.values.specs.declared.pen.Pen.{Pen}
use Rattle.values.specs.declared.state.State.{State}
use Rattle.values.specs.Events.{put, point_at, command_of, letter_of}
use Rattle.values.specs.Known.{amount_of, float_of}
use Rattle.values.specs.Pen.{is_large, placed_of}
use Rattle.values.specs.State.{settle_if, called_of, step_of, in_turn}
use Rattle.std.specs.Prelude.{Option, Some, None}
use Rattle.reader.specs.Counts.{first_large}
use Rattle.reader.proofs.Adding.{sound_of}
use Rattle.reader.proofs.Heard.{heard_by, heard_from}
use Rattle.radio.specs.Hears.{ended_before, first_of}
use Rattle.radio.proofs.Since.{going_of, since, is_letter, ended_since, Goes, goes}

-- ---- one event: what is so of the place where it ends, if it is no number that is too large
pub sits : (ℕ → Type 0) → Event → Type 0
sits P Nothing = Unit {0}
sits P (Begin x y i) = P i
sits P (Line x y i) = P i
sits P (EndOpen i) = P i
sits P (EndClosed i) = P i
sits P (Beyond i) = ⊥

module _ (P : ℕ → Type 0) (i : ℕ) where
  pub point_sits : (t u : Bool) (x y : Float) → P i → sits P (cond t (cond u (Begin x y i) (Line x y i)) Nothing)
  unfolding sits
  point_sits true true x y h = h
  point_sits true false x y h = h
  point_sits false u x y h = tt

  command_sits : (inside : Bool) (p : Pen) (l : Letter) → P i → sits P (command_of inside p l i)
  unfolding sits
  command_sits true p letters.Move h = h
  command_sits false p letters.Move h = tt
  command_sits true p letters.Line h = tt
  command_sits false p letters.Line h = h
  command_sits true p letters.Along h = tt
  command_sits false p letters.Along h = h
  command_sits true p letters.Close h = h
  command_sits false p letters.Close h = tt

  pub letter_sits : (inside : Bool) (p : Pen) (k : Class) → (is_letter k ≡ true → P i) → sits P (letter_of inside p k i)
  unfolding sits
  letter_sits inside p Blank h = tt
  letter_sits inside p Comma h = tt
  letter_sits inside p Sign h = tt
  letter_sits inside p Digit h = tt
  letter_sits inside p Dot h = tt
  letter_sits inside p (Command l) h = command_sits inside p l (h refl)
  letter_sits inside p Other h = tt

module _ (es : List Event) where
  pub put_early : (p : ℕ) (e : Event) → sits (λ i. i ≤ p) e → ended_before p (put e es) ≡ put e (ended_before p es)
  unfolding sits
  put_early p Nothing h = refl
  put_early p (Begin x y i) h = ap (λ t. cond t (Begin x y i ∷ ended_before p es) (ended_before p es)) (le-leb i p h)
  put_early p (Line x y i) h = ap (λ t. cond t (Line x y i ∷ ended_before p es) (ended_before p es)) (le-leb i p h)
  put_early p (EndOpen i) h = ap (λ t. cond t (EndOpen i ∷ ended_before p es) (ended_before p es)) (le-leb i p h)
  put_early p (EndClosed i) h = ap (λ t. cond t (EndClosed i ∷ ended_before p es) (ended_before p es)) (le-leb i p h)
  put_early p (Beyond i) h = absurd h

  pub put_late : (p : ℕ) (e : Event) → sits (λ i. p < i) e → ended_before p (put e es) ≡ ended_before p es
  unfolding sits
  put_late p Nothing h = refl
  put_late p (Begin x y i) h = ap (λ t. cond t (Begin x y i ∷ ended_before p es) (ended_before p es)) (lt-leb i p h)
  put_late p (Line x y i) h = ap (λ t. cond t (Line x y i ∷ ended_before p es) (ended_before p es)) (lt-leb i p h)
  put_late p (EndOpen i) h = ap (λ t. cond t (EndOpen i ∷ ended_before p es) (ended_before p es)) (lt-leb i p h)
  put_late p (EndClosed i) h = ap (λ t. cond t (EndClosed i ∷ ended_before p es) (ended_before p es)) (lt-leb i p h)
  put_late p (Beyond i) h = absurd h

  module _ (P : ℕ → Type 0) where
    pub sound_put : (e : Event) → sits P e → sound_of (put e es) ≡ put e (sound_of es)
    unfolding sits
    sound_put Nothing h = refl
    sound_put (Begin x y i) h = refl
    sound_put (Line x y i) h = refl
    sound_put (EndOpen i) h = refl
    sound_put (EndClosed i) h = refl
    sound_put (Beyond i) h = absurd h

    pub large_put : (e : Event) → sits P e → first_large (put e es) ≡ first_large es
    unfolding sits
    large_put Nothing h = refl
    large_put (Begin x y i) h = refl
    large_put (Line x y i) h = refl
    large_put (EndOpen i) h = refl
    large_put (EndClosed i) h = refl
    large_put (Beyond i) h = absurd h

-- ---- the first number that is too large is at a place or behind it
pub from_on : ℕ → Option ℕ → Type 0
from_on n None = Unit {0}
from_on n (Some j) = n ≤ j

from_less : (m n : ℕ) (f : Option ℕ) → m ≤ n → from_on n f → from_on m f
unfolding from_on
from_less m n None h g = tt
from_less m n (Some j) h g = omega (arith, g)

first_from : (n p : ℕ) (f : Option ℕ) → n ≤ p → from_on n f → n ≤ first_of p f
unfolding from_on
first_from n p None h g = h
first_from n p (Some j) h g = omega (arith, g)

pub first_most : (p : ℕ) (f : Option ℕ) → first_of p f ≤ p
first_most p None = omega arith
first_most p (Some j) = omega arith

-- ---- the number that ends at i, if one does, and other events
module _ (m : Mode) (v : Known) (i : ℕ) where
  abbrev pub number_of : Bool → Event
  number_of t = (settle_if t m v i).event

  abbrev large : Bool
  large = is_large (amount_of v m.places) v.pen m.axis (float_of v m.places)

  abbrev pointed : Event
  pointed = point_at v.pen (placed_of v.pen m.axis (float_of v m.places)) m.axis i

  pointed_sits : (P : ℕ → Type 0) → P i → sits P pointed
  pointed_sits P h = let q = placed_of v.pen m.axis (float_of v m.places) in point_sits P i (ends_point m.axis) v.pen.fresh q.x q.y h

  -- it is too large, or a point that ends at i, or none
  pub by_number : (Q : Event → Type 0) (t : Bool) → Q Nothing → (t ≡ true → Q (Beyond v.place)) → (t ≡ true → (e : Event) → ((P : ℕ → Type 0) → P i → sits P e) → Q e) → Q (number_of t)
  by_number Q false n b p = n
  by_number Q true n b p = go large
    where
      go : (l : Bool) → Q (cond l (Beyond v.place) pointed)
      go true = b refl
      go false = p refl pointed pointed_sits

  pub number_late : (p : ℕ) (t : Bool) (es : List Event) → p < i → ended_before p (put (number_of t) es) ≡ ended_before p es
  number_late p t es h = by_number (λ e. ended_before p (put e es) ≡ ended_before p es) t refl (λ z. refl) (λ z e f. put_late es p e (f (λ j. p < j) h))

  number_from : (n : ℕ) (t : Bool) (es : List Event) → (t ≡ true → n ≤ v.place) → from_on n (first_large es) → from_on n (first_large (put (number_of t) es))
  unfolding from_on
  number_from n t es h g =
      by_number (λ e. from_on n (first_large (put e es))) t g h (λ z e f. subst (λ x. from_on n x) (sym (large_put es (λ j. Unit {0}) e (f (λ j. Unit {0}) tt))) g)

-- ---- the events of the bytes from i on
module _ (i : ℕ) (s : State) (b : ℕ) where
  abbrev pub k : Class
  k = class_of b

  abbrev pub ended : Bool
  ended = ends_before (going_of s.mode) k

  abbrev pub number : Event
  number = number_of s.mode s.known i ended

  abbrev letter : Event
  letter = letter_of (is_inside s.mode.stage (axis_at ended s.mode.axis)) s.known.pen k (i + 1)

  letter_by : (P : ℕ → Type 0) → (is_letter k ≡ true → P (i + 1)) → sits P letter
  letter_by P h = letter_sits P (i + 1) (is_inside s.mode.stage (axis_at ended s.mode.axis)) s.known.pen k h

  letter_late : (p : ℕ) (es : List Event) → p ≤ i → ended_before p es ≡ [] → ended_before p (put letter es) ≡ []
  letter_late p es h e = put_late es p letter (letter_by (λ j. p < j) (λ z. omega arith)) ∙ e

  heard_late : (p : ℕ) (es : List Event) (l : Bool) → p < i → ended_before p es ≡ [] → ended_before p (heard_by (called_of s b i (i + 1)) l es) ≡ []
  heard_late p es true h e = number_late s.mode s.known i p ended [] h
  heard_late p es false h e = number_late s.mode s.known i p ended (put letter es) h ∙ letter_late p es (omega arith) e

  letter_from : (n : ℕ) (es : List Event) → from_on n (first_large es) → from_on n (first_large (put letter es))
  unfolding from_on sits
  letter_from n es g = subst (λ x. from_on n x) (sym (large_put es (λ j. Unit {0}) letter (letter_by (λ j. Unit {0}) (λ z. tt)))) g

  place_since : ended ≡ true → since i s ≤ s.known.place
  place_since e = let z = ended_since (going_of s.mode) k i s.known.place e in omega arith

  heard_from_lem : (es : List Event) (l : Bool) → from_on (since i s) (first_large es) → from_on (since i s) (first_large (heard_by (called_of s b i (i + 1)) l es))
  unfolding from_on
  heard_from_lem es true g = number_from s.mode s.known i (since i s) ended [] place_since tt
  heard_from_lem es false g = number_from s.mode s.known i (since i s) ended (put letter es) place_since (letter_from (since i s) es g)

-- nothing that is heard from i on ended before
pub none_ended : (bs : List ℕ) (i : ℕ) (s : State) (p : ℕ) → p < i → ended_before p (heard_from i s bs) ≡ []
none_ended [] i s p h = refl
none_ended (b ∷ bs) i s p h = heard_late i s b p (heard_from (i + 1) (step_of s b i) bs) (is_lost (next_of s.mode (class_of b))) h (none_ended bs (i + 1) (step_of s b i) p (omega arith))

pub large_from : (bs : List ℕ) (i : ℕ) (s : State) → since i s ≤ i → from_on (since i s) (first_large (heard_from i s bs))
unfolding from_on
large_from [] i s h = tt
large_from (b ∷ bs) i s h =
    let g = goes i s b (class_of b) h in
    let n = since (i + 1) (step_of s b i) in
    let es = heard_from (i + 1) (step_of s b i) bs in
    heard_from_lem i s b es (is_lost (next_of s.mode (class_of b))) (from_less (since i s) n (first_large es) g.least (large_from bs (i + 1) (step_of s b i) g.most))

-- ---- what ended before a place, or before the first number that is too large
abbrev pub bounded : ℕ → List Event → List Event
bounded p es = ended_before (first_of p (first_large es)) es

-- an event more that ended
add : (p : ℕ) (e : Event) (es ms : List Event) → sits (λ i. i ≤ first_of p (first_large es)) e → bounded p es ≡ sound_of ms → bounded p (put e es) ≡ sound_of (put e ms)
add p e es ms h f =
    let B = first_of p (first_large es) in
    ap (λ x. ended_before (first_of p x) (put e es)) (large_put es (λ i. i ≤ B) e h)
    ∙ put_early es B e h ∙ ap (λ x. put e x) f ∙ sym (sound_put ms (λ i. i ≤ B) e h)

-- a number that is too large: nothing behind it ended before its place
halt : (p j : ℕ) (es : List Event) → ((q : ℕ) → q ≤ j → ended_before q es ≡ []) → bounded p (Beyond j ∷ es) ≡ []
halt p j es f = f (min p j) (omega arith)

module _ (p i : ℕ) (s : State) (b : ℕ) (h : since i s ≤ i) where
  abbrev after : State
  after = step_of s b i

  abbrev start : ℕ
  start = since (i + 1) after

  -- bytes that go on
  module _ (es ms : List Event) (room : i + 1 ≤ p) (large_es : from_on start (first_large es)) (late_es : (q : ℕ) → q < i + 1 → ended_before q es ≡ []) (so : bounded p es ≡ sound_of ms) where
    abbrev g : Goes i (since i s) (ended i s b) (is_letter (k i s b)) start
    g = goes i s b (class_of b) h

    with_letter_lem : bounded p (put (letter i s b) es) ≡ sound_of (put (letter i s b) ms)
    with_letter_lem =
        add p (letter i s b) es ms
        (letter_by i s b (λ j. j ≤ first_of p (first_large es)) (λ z. first_from (i + 1) p (first_large es) room (from_less (i + 1) start (first_large es) (g.lettered z) large_es))) so

    letter_bound : first_large (put (letter i s b) es) ≡ first_large es
    letter_bound = large_put es (λ j. Unit {0}) (letter i s b) (letter_by i s b (λ j. Unit {0}) (λ z. tt))

    pub turn : bounded p (in_turn (called_of s b i (i + 1)) es) ≡ sound_of (in_turn (called_of s b i (i + 1)) ms)
    turn =
        by_number s.mode s.known i (λ e. bounded p (put e (put (letter i s b) es)) ≡ sound_of (put e (put (letter i s b) ms))) (ended i s b)
        with_letter_lem
        (λ z. let w = ended_since (going_of s.mode) (class_of b) i s.known.place z in
        halt p s.known.place (put (letter i s b) es) (λ q u. letter_late i s b q es (omega arith) (late_es q (omega arith))))
        (λ z e f.
        let x = from_less i start (first_large es) (g.ending z) large_es in
        let y : i ≤ first_of p (first_large es) = first_from i p (first_large es) (omega arith) x in
        let y2 : i ≤ first_of p (first_large (put (letter i s b) es)) = subst (λ w. i ≤ first_of p w) (sym letter_bound) y in
        add p e (put (letter i s b) es) (put (letter i s b) ms) (f (λ j. j ≤ first_of p (first_large (put (letter i s b) es))) y2) with_letter_lem)

-- bytes that two texts share
pub shared : (u r m : List ℕ) (p i : ℕ) (s : State) → since i s ≤ i → i + length u ≤ p → is_lost (final s.mode u) ≡ false
    → ((j : ℕ) (t : State) → j ≡ i + length u → t.mode ≡ final s.mode u → since j t ≤ j → bounded p (heard_from j t r) ≡ sound_of (heard_from j t m))
    → bounded p (heard_from i s (u ++ r)) ≡ sound_of (heard_from i s (u ++ m))
shared [] r m p i s h l e f = f i s (omega arith) refl h
shared (b ∷ u) r m p i s h l e f =
    let t = step_of s b i in
    let c = called_of s b i (i + 1) in
    let es = heard_from (i + 1) t (u ++ r) in
    let ms = heard_from (i + 1) t (u ++ m) in
    let g = goes i s b (class_of b) h in
    ap (λ x. bounded p (heard_by c x es)) (on (is_lost (next_of s.mode (class_of b))) refl)
    ∙ turn p i s b h es ms (omega arith) (large_from (u ++ r) (i + 1) t g.most) (none_ended (u ++ r) (i + 1) t)
    (shared u r m p (i + 1) t g.most (omega arith) e (λ j w a q z. f j w (omega arith) q z))
    ∙ sym (ap (λ x. sound_of (heard_by c x ms)) (on (is_lost (next_of s.mode (class_of b))) refl))
  where
    on : (x : Bool) → is_lost (next_of s.mode (class_of b)) ≡ x → is_lost (next_of s.mode (class_of b)) ≡ false
    on true q = absurd (never (sym e ∙ lost_final (next_of s.mode (class_of b)) u q))
    on false q = q

-- ---- where the shared bytes end, at p: a number that ends there is the last to have ended
module _ (p : ℕ) (s : State) (b : ℕ) (r : List ℕ) (h : since p s ≤ p) where
  abbrev es : List Event
  es = heard_from (p + 1) (step_of s b p) r

  abbrev rest : Bool → List Event
  rest true = []
  rest false = put (letter p s b) es

  rest_late : (l : Bool) (q : ℕ) → q ≤ p → ended_before q (rest l) ≡ []
  rest_late true q w = refl
  rest_late false q w = letter_late p s b q es w (none_ended r (p + 1) (step_of s b p) q (omega arith))

  rest_from : ended p s b ≡ true → (l : Bool) → from_on p (first_large (rest l))
  unfolding from_on
  rest_from e true = tt
  rest_from e false =
      let g = goes p s b (class_of b) h in
      letter_from p s b p es (from_less p (since (p + 1) (step_of s b p)) (first_large es) (g.ending e) (large_from r (p + 1) (step_of s b p) g.most))

  heard_rest : (l : Bool) → heard_by (called_of s b p (p + 1)) l es ≡ put (number p s b) (rest l)
  heard_rest true = refl
  heard_rest false = refl

  abbrev l : Bool
  l = is_lost (next_of s.mode (class_of b))

  nothing : bounded p (rest l) ≡ []
  nothing = rest_late l (first_of p (first_large (rest l))) (first_most p (first_large (rest l)))

  large_one : ended p s b ≡ true → bounded p (Beyond s.known.place ∷ rest l) ≡ []
  large_one z =
      let w = ended_since (going_of s.mode) (class_of b) p s.known.place z in
      halt p s.known.place (rest l) (λ q u. rest_late l q (omega arith))

  point_one : ended p s b ≡ true → (x : Event) → ((P : ℕ → Type 0) → P p → sits P x) → bounded p (put x (rest l)) ≡ sound_of (put x [])
  point_one z x f = add p x (rest l) [] (f (λ j. j ≤ first_of p (first_large (rest l))) (first_from p p (first_large (rest l)) (omega arith) (rest_from z l))) nothing

  pub one_here : bounded p (heard_from p s (b ∷ r)) ≡ sound_of (put (number p s b) [])
  one_here = ap (λ x. bounded p x) (heard_rest l) ∙ by_number s.mode s.known p (λ x. bounded p (put x (rest l)) ≡ sound_of (put x [])) (ended p s b) nothing large_one point_one
