-- The place since which nothing has ended: where the number begins that a text is in, or the place of the next byte. How a byte moves it; and that a number
-- may end exactly behind a digit. Assumes nothing.
use Prim.Native.Nat.{ℕ, ◌+◌, ◌≤◌}
use mathlib.Core.Path.{◌≡◌, refl, sym, ap, subst}
use mathlib.Core.Bool.{Bool, true, false, cond}
use native.Mathlib.Omega.{arith}
use lib.Dec.{ltb}
use Rattle.form.specs.declared.classes.Class.{Class}
use Rattle.form.specs.declared.classes.Class.TheVariants.{Blank, Comma, Sign, Digit, Dot, Command, Other}
use Rattle.form.specs.declared.classes.Letter.{Letter}
use Rattle.form.specs.declared.classes.Letter.TheVariants.{Move, Line, Along, Close}
use Rattle.form.specs.declared.machine.Axis.{Axis}
use Rattle.form.specs.declared.machine.Axis.TheVariants.{X}
use Rattle.form.specs.declared.machine.Going.{Going}
use Rattle.form.specs.declared.machine.Going.TheVariants.{Fresh, Opened, InWhole, AtPoint, InFraction}
use Rattle.form.specs.declared.machine.Stand.{Stand}
use Rattle.form.specs.declared.machine.Stand.TheVariants.{Nowhere, Amid, Before, Behind, Between}
use Rattle.form.specs.declared.machine.Mode.{Mode}
use Rattle.form.specs.declared.machine.Stage.{Stage}
use Rattle.form.specs.declared.machine.Stage.TheVariants.{Start, Closed, Want, Signed, Whole, Pointed, Fraction, Gap, Lost}
use Rattle.form.specs.Machine.{at, deep, row_of, begins_point, ends_here, ends_before, axis_at, any_letter, first_letter, lettered_of, next_of, is_lost}
use Rattle.form.proofs.Taken.{never}
use Rattle.values.specs.declared.known.Known.{Known}
use Rattle.values.specs.declared.state.State.{State}
use Rattle.values.specs.State.{step_by}
use Rattle.radio.specs.Hears.{is_figure}

abbrev pub going_of : Mode → Going
going_of m = (row_of m.stage).going

abbrev pub since_by : Going → ℕ → ℕ → ℕ
since_by Fresh i j = i
since_by Opened i j = j
since_by InWhole i j = j
since_by AtPoint i j = j
since_by InFraction i j = j

-- where the next byte is at i
abbrev pub since : ℕ → State → ℕ
since i s = since_by (going_of s.mode) i s.known.place

abbrev pub is_letter : Class → Bool
is_letter Blank = false
is_letter Comma = false
is_letter Sign = false
is_letter Digit = false
is_letter Dot = false
is_letter (Command l) = true
is_letter Other = false

-- ---- the number that ends before a byte is the one that the text is in
here_since : (g : Going) (i j : ℕ) → ends_here g ≡ true → since_by g i j ≡ j
here_since Fresh i j e = absurd (never e)
here_since Opened i j e = absurd (never e)
here_since InWhole i j e = refl
here_since AtPoint i j e = absurd (never e)
here_since InFraction i j e = refl

pub ends_here_lem : (g : Going) (k : Class) → ends_before g k ≡ true → ends_here g ≡ true
ends_here_lem g Blank e = e
ends_here_lem g Comma e = e
ends_here_lem g Sign e = e
ends_here_lem g Digit e = absurd (never e)
ends_here_lem Fresh Dot e = absurd (never e)
ends_here_lem Opened Dot e = absurd (never e)
ends_here_lem InWhole Dot e = absurd (never e)
ends_here_lem AtPoint Dot e = absurd (never e)
ends_here_lem InFraction Dot e = refl
ends_here_lem g (Command l) e = e
ends_here_lem g Other e = e

pub ended_since : (g : Going) (k : Class) (i j : ℕ) → ends_before g k ≡ true → since_by g i j ≡ j
ended_since g k i j e = here_since g i j (ends_here_lem g k e)

-- ---- the place after a byte, by what it does: it begins no number, it begins one, or it goes on with one
data Moved (i j : ℕ) : Bool → Bool → ℕ → Type 0 where
  none : {ended letter : Bool} → Moved i j ended letter (i + 1)
  begun : {ended : Bool} → Moved i j ended false i
  kept : Moved i j false false j

fresh_letter : (l : Letter) → (going_of (any_letter l) ≡ Fresh) × (going_of (first_letter l) ≡ Fresh)
fresh_letter Move = (refl, refl)
fresh_letter Line = (refl, refl)
fresh_letter Along = (refl, refl)
fresh_letter Close = (refl, refl)

fresh_lettered : (s : Stand) (a : Axis) (l : Letter) → going_of (lettered_of s a l) ≡ Fresh
fresh_lettered Nowhere a l = refl
fresh_lettered Amid a l = refl
fresh_lettered Before a l = (fresh_letter l).1
fresh_lettered Behind a l = (fresh_letter l).0
fresh_lettered Between a l = go (begins_point a)
  where
    go : (t : Bool) → going_of (cond t (any_letter l) (at Lost X)) ≡ Fresh
    go true = (fresh_letter l).0
    go false = refl

-- the table's columns
record Columns (g : Stage) : Type 0 where
  blank : (row_of (row_of g).blank).going ≡ Fresh
  comma : (row_of (row_of g).comma).going ≡ Fresh
  sign : ends_here (row_of (row_of g).sign).going ≡ false
  dot : ends_here (row_of (row_of g).dot).going ≡ false

columns : (g : Stage) → Columns g
columns Start = record { blank = refl; comma = refl; sign = refl; dot = refl }
columns Closed = record { blank = refl; comma = refl; sign = refl; dot = refl }
columns Want = record { blank = refl; comma = refl; sign = refl; dot = refl }
columns Signed = record { blank = refl; comma = refl; sign = refl; dot = refl }
columns Whole = record { blank = refl; comma = refl; sign = refl; dot = refl }
columns Pointed = record { blank = refl; comma = refl; sign = refl; dot = refl }
columns Fraction = record { blank = refl; comma = refl; sign = refl; dot = refl }
columns Gap = record { blank = refl; comma = refl; sign = refl; dot = refl }
columns Lost = record { blank = refl; comma = refl; sign = refl; dot = refl }

abbrev state_at : Stage → Axis → ℕ → Known → State
state_at g a n v = record { mode = record { stage = g; axis = a; places = n }; known = v }

module _ (a : Axis) (n : ℕ) (v : Known) (i b : ℕ) where
  abbrev Moves : Stage → Class → Type 0
  Moves g k = Moved i (since i (state_at g a n v)) (ends_before (row_of g).going k) (is_letter k) (since (i + 1) (step_by (state_at g a n v) b k i))

  fresh_moves : (g : Stage) (k : Class) → going_of (next_of (state_at g a n v).mode k) ≡ Fresh → Moves g k
  fresh_moves g k e =
      let j = (step_by (state_at g a n v) b k i).known.place in
      subst (λ w. Moved i (since i (state_at g a n v)) (ends_before (row_of g).going k) (is_letter k) (since_by w (i + 1) j)) (sym e) none

  sign_moves : (g : Stage) → Moves g Sign
  sign_moves Start = none
  sign_moves Closed = none
  sign_moves Want = begun
  sign_moves Signed = none
  sign_moves Whole = begun
  sign_moves Pointed = none
  sign_moves Fraction = begun
  sign_moves Gap = begun
  sign_moves Lost = none

  deeper_moves : (t : Bool) → Moved i v.place false false (since_by (going_of (cond t (deep a (n + 1)) (at Lost a))) (i + 1) v.place)
  deeper_moves true = kept
  deeper_moves false = none

  digit_moves : (g : Stage) → Moves g Digit
  digit_moves Start = none
  digit_moves Closed = none
  digit_moves Want = begun
  digit_moves Signed = kept
  digit_moves Whole = kept
  digit_moves Pointed = kept
  digit_moves Fraction = deeper_moves (ltb n 6)
  digit_moves Gap = begun
  digit_moves Lost = none

  dot_moves : (g : Stage) → Moves g Dot
  dot_moves Start = none
  dot_moves Closed = none
  dot_moves Want = begun
  dot_moves Signed = kept
  dot_moves Whole = kept
  dot_moves Pointed = none
  dot_moves Fraction = begun
  dot_moves Gap = begun
  dot_moves Lost = none

  moves_by : (g : Stage) (k : Class) → Moves g k
  moves_by g Blank = fresh_moves g Blank (columns g).blank
  moves_by g Comma = fresh_moves g Comma (columns g).comma
  moves_by g Sign = sign_moves g
  moves_by g Digit = digit_moves g
  moves_by g Dot = dot_moves g
  moves_by g (Command l) = fresh_moves g (Command l) (fresh_lettered (row_of g).stand (axis_at (ends_before (row_of g).going (Command l)) a) l)
  moves_by g Other = none

-- what is known of it
pub record Goes (i j : ℕ) (ended letter : Bool) (k : ℕ) : Type 0 where
  pub least : j ≤ k
  pub most : k ≤ i + 1
  pub ending : ended ≡ true → i ≤ k
  pub lettered : letter ≡ true → i + 1 ≤ k

goes_by : {i j k : ℕ} {ended letter : Bool} → j ≤ i → Moved i j ended letter k → Goes i j ended letter k
goes_by h none = record { least = omega arith; most = omega arith; ending = λ e. omega arith; lettered = λ e. omega arith }
goes_by h begun = record { least = omega arith; most = omega arith; ending = λ e. omega arith; lettered = λ e. absurd (never e) }
goes_by h kept = record { least = omega arith; most = omega arith; ending = λ e. absurd (never e); lettered = λ e. absurd (never e) }

pub goes : (i : ℕ) (s : State) (b : ℕ) (k : Class) → since i s ≤ i → Goes i (since i s) (ends_before (going_of s.mode) k) (is_letter k) (since (i + 1) (step_by s b k i))
goes i s b k h = goes_by h (moves_by s.mode.axis s.mode.places s.known i b s.mode.stage k)

-- ---- a number may end exactly behind a digit
digit_ends : (g : Stage) (a : Axis) (n : ℕ) → is_lost (next_of (record { stage = g; axis = a; places = n }) Digit) ≡ false → ends_here (going_of (next_of (record { stage = g; axis = a; places = n }) Digit)) ≡ true
digit_ends Start a n e = absurd (never (sym e))
digit_ends Closed a n e = absurd (never (sym e))
digit_ends Want a n e = refl
digit_ends Signed a n e = refl
digit_ends Whole a n e = refl
digit_ends Pointed a n e = refl
digit_ends Fraction a n e = go (ltb n 6) e
  where
    go : (t : Bool) → is_lost (cond t (deep a (n + 1)) (at Lost a)) ≡ false → ends_here (going_of (cond t (deep a (n + 1)) (at Lost a))) ≡ true
    go true e = refl
    go false e = absurd (never (sym e))
digit_ends Gap a n e = refl
digit_ends Lost a n e = absurd (never (sym e))

pub behind_figure : (m : Mode) (k : Class) → is_lost (next_of m k) ≡ false → ends_here (going_of (next_of m k)) ≡ is_figure k
behind_figure m Blank e = ap ends_here (columns m.stage).blank
behind_figure m Comma e = ap ends_here (columns m.stage).comma
behind_figure m Sign e = (columns m.stage).sign
behind_figure m Digit e = digit_ends m.stage m.axis m.places e
behind_figure m Dot e = (columns m.stage).dot
behind_figure m (Command l) e = ap ends_here (fresh_lettered (row_of m.stage).stand (axis_at (ends_before (row_of m.stage).going (Command l)) m.axis) l)
behind_figure m Other e = refl
