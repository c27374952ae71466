-- Which class the byte at the text limit is of. Assumes nothing.
use Prim.Native.Nat.{ℕ}
use mathlib.Core.Path.{◌≡◌, refl, sym, ap, ◌∙◌}
use mathlib.Core.Bool.{Bool, true, false, cond, ◌||◌}
use lib.Dec.{eqb}
use Rattle.form.specs.declared.classes.Class.{Class}
use Rattle.form.specs.declared.classes.Class.TheVariants.{Blank, Comma, Sign, Digit, Dot, Command, Other}
use Rattle.form.specs.declared.classes.Letter.TheVariants.{Move, Line, Along, Close}
use Rattle.form.specs.Bytes.{is_blank, is_sign, is_digit, is_move, is_line, is_along, is_close, class_of}
use Rattle.form.proofs.Taken.{never}
use Rattle.radio.specs.Hears.{goes_on}
use Rattle.radio.proofs.Since.{is_letter}

-- what the tests of a byte come to
sorted : Bool → Bool → Bool → Bool → Bool → Class → Class
sorted a c d e f k = cond a Blank (cond c Comma (cond d Sign (cond e Digit (cond f Dot k))))

letters : ℕ → Class
letters b = cond (is_move b) (Command Move) (cond (is_line b) (Command Line) (cond (is_along b) (Command Along) (cond (is_close b) (Command Close) Other)))

class_is : (b : ℕ) → class_of b ≡ sorted (is_blank b) (eqb b 44) (is_sign b) (is_digit b) (eqb b 46) (letters b)
unfolding class_of sorted letters
class_is b = refl

letters_not : (b : ℕ) → goes_on (letters b) ≡ false
unfolding letters
letters_not b = go (is_move b) (is_line b) (is_along b) (is_close b)
  where
    go : (m l a z : Bool) → goes_on (cond m (Command Move) (cond l (Command Line) (cond a (Command Along) (cond z (Command Close) Other)))) ≡ false
    go true l a z = refl
    go false true a z = refl
    go false false true z = refl
    go false false false true = refl
    go false false false false = refl

not_on : (a c d e f : Bool) (k : Class) → goes_on k ≡ false → e || f ≡ false → goes_on (sorted a c d e f k) ≡ false
unfolding sorted
not_on true c d e f k g h = refl
not_on false true d e f k g h = refl
not_on false false true e f k g h = refl
not_on false false false true f k g h = absurd (never (sym h))
not_on false false false false true k g h = absurd (never (sym h))
not_on false false false false false k g h = g

no_letter : (a c d e f : Bool) (k : Class) → e || f ≡ true → is_letter (sorted a c d e f k) ≡ false
unfolding sorted
no_letter true c d e f k h = refl
no_letter false true d e f k h = refl
no_letter false false true e f k h = refl
no_letter false false false true f k h = refl
no_letter false false false false true k h = refl
no_letter false false false false false k h = absurd (never h)

pub limit_not_on : (b : ℕ) → is_digit b || eqb b 46 ≡ false → goes_on (class_of b) ≡ false
limit_not_on b h = ap goes_on (class_is b) ∙ not_on (is_blank b) (eqb b 44) (is_sign b) (is_digit b) (eqb b 46) (letters b) (letters_not b) h

pub limit_no_letter : (b : ℕ) → is_digit b || eqb b 46 ≡ true → is_letter (class_of b) ≡ false
limit_no_letter b h = ap is_letter (class_is b) ∙ no_letter (is_blank b) (eqb b 44) (is_sign b) (is_digit b) (eqb b 46) (letters b) h
