-- What the letters and numbers of a path text come to, one by one: the current point. Assumes nothing.
use Rattle.std.specs.Prelude.{ℕ, Bool, true, false, cond, ◌||◌, leb, eqb, Float}
use Rattle.std.specs.Float.Ieee.{add, lt, neg, of_bits}
use Rattle.std.specs.Float.{binary32}
use Rattle.decimals.specs.Digits as digits
use Rattle.form.specs.declared.classes.Letter.{Letter}
use Rattle.form.specs.declared.classes.Letter.TheVariants.{Move, Line, Along, Close}
use Rattle.form.specs.declared.machine.Axis.{Axis}
use Rattle.form.specs.declared.machine.Axis.TheVariants.{X, Y, Alone}
use Rattle.form.specs.Machine.{ends_point}
use Rattle.values.specs.declared.pen.Pen.{Pen}

-- before the first letter the current point is (0, 0)
abbrev pub resting_pen : Pen
resting_pen = record { fresh = false; relative = false; upright = false; x = of_bits binary32 0; y = of_bits binary32 0; first_x = of_bits binary32 0; first_y = of_bits binary32 0 }

-- whether a number is a y: that of V and v is
abbrev pub aims_y : Axis → Bool → Bool
aims_y X u = false
aims_y Y u = true
aims_y Alone u = u

-- "Relative commands add in f32 to the current point."
abbrev pub coord_of : Pen → Axis → Float → Float
coord_of p a c = cond p.relative (add binary32 (cond (aims_y a p.upright) p.y p.x) c) c

-- "a sum beyond the limit", 32,768
abbrev pub coordinate_limit : Float
coordinate_limit = of_bits binary32 0x47000000

abbrev pub is_outside : Float → Bool
is_outside c = lt coordinate_limit c || lt c (neg coordinate_limit)

-- Refusal 10 "is judged on the exact decimal", here n millionths, "and also covers a sum beyond the limit".
abbrev pub is_large : ℕ → Pen → Axis → Float → Bool
is_large n p a c = digits.beyond_of n || is_outside (coord_of p a c)

-- after a number: the current point has its coordinate, and a point that begins a run is its first
abbrev pub placed_of : Pen → Axis → Float → Pen
placed_of p a c =
    let t = aims_y a p.upright in
    let x = cond t p.x (coord_of p a c) in
    let y = cond t (coord_of p a c) p.y in
    let first = cond (ends_point a) p.fresh false in
    record { fresh = cond (ends_point a) false p.fresh; relative = p.relative; upright = p.upright; x = x; y = y; first_x = cond first x p.first_x; first_y = cond first y p.first_y }

-- lower case is relative
abbrev pub is_lower : ℕ → Bool
is_lower b = leb 97 b

-- V and v
abbrev pub upright : ℕ → Bool
upright b = eqb b 86 || eqb b 118

abbrev pub with_letter : Pen → Bool → ℕ → Pen
with_letter p fresh b = record { fresh = fresh; relative = is_lower b; upright = upright b; x = p.x; y = p.y; first_x = p.first_x; first_y = p.first_y }

-- behind a Z the current point is the run's first
abbrev pub home_of : Pen → Pen
home_of p = record { fresh = p.fresh; relative = p.relative; upright = p.upright; x = p.first_x; y = p.first_y; first_x = p.first_x; first_y = p.first_y }

-- after a letter
abbrev pub lettered_of : Pen → Letter → ℕ → Pen
lettered_of p Move b = with_letter p true b
lettered_of p Line b = with_letter p false b
lettered_of p Along b = with_letter p false b
lettered_of p Close b = home_of p
