-- What is known between two bytes. Assumes nothing.
use Rattle.std.specs.Prelude.{ℕ, Bool, false, eqb, Float}
use Rattle.decimals.specs.Decimals.{value_of}
use Rattle.decimals.specs.Digits.{digit_of, whole_cap, fraction_cap, millionths_of}
use Rattle.form.specs.declared.classes.Class.{Class}
use Rattle.form.specs.declared.classes.Class.TheVariants.{Blank, Comma, Sign, Digit, Dot, Command, Other}
use Rattle.form.specs.declared.machine.Going.{Going}
use Rattle.form.specs.declared.machine.Going.TheVariants.{Fresh, Opened, InWhole, AtPoint, InFraction}
use Rattle.values.specs.declared.known.Known.{Known}
use Rattle.values.specs.declared.pen.Pen.{Pen}
use Rattle.values.specs.Pen.{resting_pen, lettered_of}

abbrev pub nothing_known : Known
nothing_known = record { pen = resting_pen; minus = false; whole = 0; fraction = 0; place = 0 }

abbrev pub with_number : Known → Bool → ℕ → ℕ → ℕ → Known
with_number v minus whole fraction place = record { pen = v.pen; minus = minus; whole = whole; fraction = fraction; place = place }

abbrev pub with_whole : Known → ℕ → Known
with_whole v whole = with_number v v.minus whole v.fraction v.place

abbrev pub with_fraction : Known → ℕ → Known
with_fraction v fraction = with_number v v.minus v.whole fraction v.place

abbrev pub with_pen : Known → Pen → Known
with_pen v pen = record { pen = pen; minus = v.minus; whole = v.whole; fraction = v.fraction; place = v.place }

-- the number in millionths, with so many digits after its point, and its float
abbrev pub amount_of : Known → ℕ → ℕ
amount_of v places = millionths_of v.whole v.fraction places

abbrev pub float_of : Known → ℕ → Float
float_of v places = value_of v.minus (amount_of v places)

-- a digit goes on with a number, or begins one
abbrev pub digit_taken : Going → ℕ → ℕ → Known → Known
digit_taken Fresh b place v = with_number v false (digit_of whole_cap 0 b) 0 place
digit_taken Opened b place v = with_whole v (digit_of whole_cap v.whole b)
digit_taken InWhole b place v = with_whole v (digit_of whole_cap v.whole b)
digit_taken AtPoint b place v = with_fraction v (digit_of fraction_cap v.fraction b)
digit_taken InFraction b place v = with_fraction v (digit_of fraction_cap v.fraction b)

-- and so does a point; a second one begins the next
abbrev pub dot_taken : Going → ℕ → Known → Known
dot_taken Fresh place v = with_number v false 0 0 place
dot_taken Opened place v = v
dot_taken InWhole place v = v
dot_taken AtPoint place v = v
dot_taken InFraction place v = with_number v false 0 0 place

-- after a byte
abbrev pub taken_of : Going → ℕ → Class → ℕ → Known → Known
taken_of going b Blank place v = v
taken_of going b Comma place v = v
taken_of going b Sign place v = with_number v (eqb b 45) 0 0 place
taken_of going b Digit place v = digit_taken going b place v
taken_of going b Dot place v = dot_taken going place v
taken_of going b (Command l) place v = with_pen v (lettered_of v.pen l b)
taken_of going b Other place v = v
