-- What comes back of a state's words is the state, whatever stands behind them (`words_back`): each field's word tells the field. Assumes nothing.
use Prim.Native.Nat.{ℕ, ◌<◌}
use mathlib.Core.Path.{◌≡◌, refl, ap, ◌∙◌}
use mathlib.Core.Bool.{Bool, true, false, cond, ◌&&◌}
use mathlib.Core.List.{List, [], ◌∷◌, ◌++◌}
use borrow.Author.Tests.{lt-ltb, eq-eqb}
use lib.Dec.{T}
use lib.Ieee.{Float, binary32, of_bits, to_bits, fits}
use lib.Ieee.Bits.{of_bits-to_bits, to_bits-lt}
use Rattle.form.specs.declared.machine.Axis.{Axis}
use Rattle.form.specs.declared.machine.Axis.TheVariants.{X, Y, Alone}
use Rattle.form.specs.declared.machine.Stage.{Stage}
use Rattle.form.specs.declared.machine.Stage.TheVariants.{Start, Closed, Want, Signed, Whole, Pointed, Fraction, Gap, Lost}
use Rattle.std.specs.Prelude.{Option, Some, None}
use Rattle.radio.specs.declared.Radio.{Radio}
use Rattle.radio.specs.Radio.{closed_by}
use Rattle.radio_words.specs.Fields.{stage_word, stage_at, axis_word, axis_at, flag_word, flag_at, below, float_at, found_word, found_place, found_at}
use Rattle.radio_words.specs.Words.{words_of, radio_in, begins_with, held_in}

stage_back : (g : Stage) → stage_at (stage_word g) ≡ g
unfolding stage_at
stage_back Start = refl
stage_back Closed = refl
stage_back Want = refl
stage_back Signed = refl
stage_back Whole = refl
stage_back Pointed = refl
stage_back Fraction = refl
stage_back Gap = refl
stage_back Lost = refl

axis_back : (a : Axis) → axis_at (axis_word a) ≡ a
unfolding axis_at
axis_back X = refl
axis_back Y = refl
axis_back Alone = refl

flag_back : (b : Bool) → flag_at (flag_word b) ≡ b
flag_back true = refl
flag_back false = refl

found_back_lem : (f : Option ℕ) → found_at (found_word f) (found_place f) ≡ f
found_back_lem None = refl
found_back_lem (Some i) = refl

below_back : (m n : ℕ) → n < m → below m n ≡ n
below_back m n h = ap (λ t. cond t n 0) (lt-ltb n m h)

float_back : (x : Float) → T (fits binary32 x) → float_at (to_bits binary32 x) ≡ x
float_back x h = ap (λ b. of_bits binary32 b) (below_back 4294967296 (to_bits binary32 x) (to_bits-lt binary32 x h)) ∙ of_bits-to_bits binary32 x h

-- the fields that have fewer bits than a word are of their types, as every value of the code is
pub record Typed (r : Radio) : Type 0 where
  pub places : r.passage.state.mode.places < 256
  pub whole : r.passage.state.known.whole < 65536
  pub fraction : r.passage.state.known.fraction < 4294967296
  pub x : T (fits binary32 r.passage.state.known.pen.x)
  pub y : T (fits binary32 r.passage.state.known.pen.y)
  pub first_x : T (fits binary32 r.passage.state.known.pen.first_x)
  pub first_y : T (fits binary32 r.passage.state.known.pen.first_y)

starts_with : (xs ys : List ℕ) → begins_with xs (xs ++ ys) ≡ true
starts_with [] ys = refl
starts_with (x ∷ xs) ys = ap (λ t. t && begins_with xs (xs ++ ys)) (eq-eqb x x refl) ∙ starts_with xs ys

module _ (r : Radio) (t : Typed r) (rest : List ℕ) where
  read_back : radio_in (words_of r ++ rest) ≡ r
  read_back =
      let p = r.passage in
      let m = p.state.mode in
      let v = p.state.known in
      let n = v.pen in
      λ j.
      record {
        passage =
            record {
              state =
                  record {
                    mode = record { stage = stage_back m.stage j; axis = axis_back m.axis j; places = below_back 256 m.places t.places j };
                    known =
                        record {
                          pen =
                              record {
                                fresh = flag_back n.fresh j;
                                relative = flag_back n.relative j;
                                upright = flag_back n.upright j;
                                x = float_back n.x t.x j;
                                y = float_back n.y t.y j;
                                first_x = float_back n.first_x t.first_x j;
                                first_y = float_back n.first_y t.first_y j;
                              };
                          minus = flag_back v.minus j;
                          whole = below_back 65536 v.whole t.whole j;
                          fraction = below_back 4294967296 v.fraction t.fraction j;
                          place = v.place;
                        };
                  };
              counts = record { verbs = p.counts.verbs; coords = p.counts.coords; large = found_back_lem p.counts.large j };
              place = p.place;
            };
        length = r.length;
        closed = flag_back r.closed j;
      }

  pub words_back : held_in (words_of r ++ rest) ≡ r
  words_back =
      let w = words_of r ++ rest in
      ap (λ x. cond (begins_with (words_of x) w) x (closed_by x)) read_back
      ∙ ap (λ b. cond b r (closed_by r)) (starts_with (words_of r) rest)
