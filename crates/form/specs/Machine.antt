-- The form, byte by byte. Assumes nothing.
use Rattle.std.specs.Prelude.{ℕ, suc, ◌+◌, Bool, true, false, cond, not, List, [], ◌∷◌, ltb}
use Rattle.form.specs.declared.classes.Class.{Class}
use Rattle.form.specs.declared.classes.Class.TheVariants.{Blank, Comma, Sign, Digit, Dot, Command, Other}
use Rattle.form.specs.declared.classes.Letter.{Letter}
use Rattle.form.specs.declared.classes.Letter.TheVariants.{Move, Line, Along, Close}
use Rattle.form.specs.declared.machine.Axis.{Axis}
use Rattle.form.specs.declared.machine.Axis.TheVariants.{X, Y, Alone}
use Rattle.form.specs.declared.machine.Stage.{Stage}
use Rattle.form.specs.declared.machine.Stage.TheVariants.{Start, Closed, Want, Signed, Whole, Pointed, Fraction, Gap, Lost}
use Rattle.form.specs.declared.machine.Mode.{Mode}
use Rattle.form.specs.declared.machine.Going.{Going}
use Rattle.form.specs.declared.machine.Going.TheVariants.{Fresh, Opened, InWhole, AtPoint, InFraction}
use Rattle.form.specs.declared.machine.Row.{Row}
use Rattle.form.specs.declared.machine.Stand.{Stand}
use Rattle.form.specs.declared.machine.Stand.TheVariants.{Nowhere, Amid, Before, Behind, Between}
use Rattle.form.specs.Bytes.{class_of}

-- the axis of the number that follows one, and whether a number is the first or the last of a point
abbrev pub after : Axis → Axis
after X = Y
after Y = X
after Alone = Alone

abbrev pub begins_point : Axis → Bool
begins_point X = true
begins_point Y = false
begins_point Alone = true

abbrev pub ends_point : Axis → Bool
ends_point a = begins_point (after a)

abbrev pub cells_of : Stage → Stage → Stage → Stage → Stage → Stand → Going → Row
cells_of blank comma sign digit dot stand going = record { blank = blank; comma = comma; sign = sign; digit = digit; dot = dot; stand = stand; going = going }

-- The table, a row to each stage. By columns: the stages after white space, a comma, a sign, a digit and a point; the commands ("text is empty or begins
-- with M", "L after Z begins a run", "Z after Z adds nothing"; between numbers any, where no pair is half read); the number that a text is in, with which a digit or a point goes on.
abbrev pub row_of : Stage → Row
row_of Start = cells_of Start Lost Lost Lost Lost Before Fresh
row_of Closed = cells_of Closed Lost Lost Lost Lost Behind Fresh
row_of Want = cells_of Want Lost Signed Whole Pointed Amid Fresh
row_of Signed = cells_of Lost Lost Lost Whole Pointed Amid Opened
row_of Whole = cells_of Gap Want Signed Whole Pointed Between InWhole
row_of Pointed = cells_of Lost Lost Lost Fraction Lost Amid AtPoint
row_of Fraction = cells_of Gap Want Signed Fraction Pointed Between InFraction
row_of Gap = cells_of Gap Want Signed Whole Pointed Between Fresh
row_of Lost = cells_of Lost Lost Lost Lost Lost Nowhere Fresh

-- a stage, in or before the number of an axis
abbrev pub at : Stage → Axis → Mode
at g a = record { stage = g; axis = a; places = 0 }

abbrev pub start : Mode
start = at Start X

-- Whether a number ends before a byte: it goes on with a digit and with its first point. Then the axis is that of the next one.
abbrev pub ends_here : Going → Bool
ends_here Fresh = false
ends_here Opened = false
ends_here InWhole = true
ends_here AtPoint = false
ends_here InFraction = true

abbrev pub second_dot : Going → Bool
second_dot Fresh = false
second_dot Opened = false
second_dot InWhole = false
second_dot AtPoint = false
second_dot InFraction = true

abbrev pub ends_before : Going → Class → Bool
ends_before g Blank = ends_here g
ends_before g Comma = ends_here g
ends_before g Sign = ends_here g
ends_before g Digit = false
ends_before g Dot = second_dot g
ends_before g (Command l) = ends_here g
ends_before g Other = ends_here g

abbrev pub axis_at : Bool → Axis → Axis
axis_at ended a = cond ended (after a) a

-- "at most six digits after the point"
abbrev pub deep : Axis → ℕ → Mode
deep a n = record { stage = Fraction; axis = a; places = n }

abbrev pub deeper : Axis → ℕ → Mode
deeper a n = cond (ltb n 6) (deep a (n + 1)) (at Lost a)

abbrev pub digit_by : Going → Stage → Axis → ℕ → Mode
digit_by Fresh g a n = at g a
digit_by Opened g a n = at g a
digit_by InWhole g a n = at g a
digit_by AtPoint g a n = deep a 1
digit_by InFraction g a n = deeper a n

abbrev pub digit_of : Mode → Mode
digit_of m = digit_by (row_of m.stage).going (row_of m.stage).digit m.axis m.places

-- where a letter leads: before its first number
abbrev pub any_letter : Letter → Mode
any_letter Move = at Want X
any_letter Line = at Want X
any_letter Along = at Want Alone
any_letter Close = at Closed X

abbrev pub first_letter : Letter → Mode
first_letter Move = at Want X
first_letter Line = at Lost X
first_letter Along = at Lost X
first_letter Close = at Lost X

abbrev pub lettered_of : Stand → Axis → Letter → Mode
lettered_of Nowhere a l = at Lost X
lettered_of Amid a l = at Lost X
lettered_of Before a l = first_letter l
lettered_of Behind a l = any_letter l
lettered_of Between a l = cond (begins_point a) (any_letter l) (at Lost X)

-- the mode after a byte of a class, where the axis is a once a number has ended
abbrev pub stage_after : Stage → Class → Stage
stage_after g Blank = (row_of g).blank
stage_after g Comma = (row_of g).comma
stage_after g Sign = (row_of g).sign
stage_after g Digit = (row_of g).digit
stage_after g Dot = (row_of g).dot
stage_after g (Command l) = Lost
stage_after g Other = Lost

abbrev pub next_at : Mode → Axis → Stand → Stage → Class → Mode
next_at m a stand g Blank = at g a
next_at m a stand g Comma = at g a
next_at m a stand g Sign = at g a
next_at m a stand g Digit = digit_of m
next_at m a stand g Dot = at g a
next_at m a stand g (Command l) = lettered_of stand a l
next_at m a stand g Other = at g a

abbrev pub next_of : Mode → Class → Mode
next_of m k =
    let r = row_of m.stage in
    next_at m (axis_at (ends_before r.going k) m.axis) r.stand (stage_after m.stage k) k

-- where a text leads
abbrev pub final : Mode → List ℕ → Mode
final m [] = m
final m (b ∷ s) = final (next_of m (class_of b)) s

-- whether no text of the form begins so
abbrev pub lost_by : Stand → Bool
lost_by Nowhere = true
lost_by Amid = false
lost_by Before = false
lost_by Behind = false
lost_by Between = false

abbrev pub is_lost : Mode → Bool
is_lost m = lost_by (row_of m.stage).stand

-- a text may end where an M may follow
abbrev pub may_end : Mode → Bool
may_end m = not (is_lost (next_of m (Command Move)))

-- whether a run is open where a letter may follow
abbrev pub inside_by : Stand → Axis → Bool
inside_by Nowhere a = false
inside_by Amid a = false
inside_by Before a = false
inside_by Behind a = false
inside_by Between a = begins_point a

abbrev pub is_inside : Stage → Axis → Bool
is_inside g a = inside_by (row_of g).stand a

-- how many bytes it takes until it is lost
unfoldable pub stop : Mode → List ℕ → ℕ
stop m [] = 0
stop m (b ∷ s) = cond (is_lost (next_of m (class_of b))) 0 (suc (stop (next_of m (class_of b)) s))
