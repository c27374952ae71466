-- The bytes of a path text. Assumes nothing.
use Rattle.std.specs.Prelude.{ℕ, Bool, cond, ◌||◌, ◌&&◌, leb, eqb}
use Rattle.form.specs.declared.classes.Class.{Class}
use Rattle.form.specs.declared.classes.Class.TheVariants.{Blank, Comma, Sign, Digit, Dot, Command, Other}
use Rattle.form.specs.declared.classes.Letter.TheVariants.{Move, Line, Along, Close}

-- "White space is space, tab, line feed, form feed, carriage return"
abbrev pub is_blank : ℕ → Bool
is_blank b = eqb b 32 || eqb b 9 || eqb b 10 || eqb b 12 || eqb b 13

-- + and -
abbrev pub is_sign : ℕ → Bool
is_sign b = eqb b 43 || eqb b 45

-- 0 to 9
abbrev pub is_digit : ℕ → Bool
is_digit b = leb 48 b && leb b 57

-- "Commands M, L and Z or z", and W-204's "m, l, h, v, H, V"
abbrev pub is_move : ℕ → Bool
is_move b = eqb b 77 || eqb b 109

abbrev pub is_line : ℕ → Bool
is_line b = eqb b 76 || eqb b 108

abbrev pub is_along : ℕ → Bool
is_along b = eqb b 72 || eqb b 104 || eqb b 86 || eqb b 118

abbrev pub is_close : ℕ → Bool
is_close b = eqb b 90 || eqb b 122

unfoldable pub class_of : ℕ → Class
class_of b =
    cond (is_blank b) Blank
    (cond (eqb b 44) Comma
    (cond (is_sign b) Sign
    (cond (is_digit b) Digit
    (cond (eqb b 46) Dot
    (cond (is_move b) (Command Move)
    (cond (is_line b) (Command Line)
    (cond (is_along b) (Command Along)
    (cond (is_close b) (Command Close)
    Other))))))))
