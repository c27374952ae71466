-- What a path text calls for, byte by byte. Assumes nothing.
use Rattle.std.specs.Prelude.{ℕ, Bool, cond, List, ◌∷◌}
use Rattle.form.specs.declared.classes.Class.{Class}
use Rattle.form.specs.declared.classes.Class.TheVariants.{Blank, Comma, Sign, Digit, Dot, Command, Other}
use Rattle.form.specs.declared.classes.Letter.{Letter}
use Rattle.form.specs.declared.classes.Letter.TheVariants as letters
use Rattle.form.specs.declared.machine.Axis.{Axis}
use Rattle.form.specs.Machine.{ends_point}
use Rattle.values.specs.declared.events.Event.{Event}
use Rattle.values.specs.declared.events.Event.TheVariants.{Nothing, Begin, Line, EndOpen, EndClosed, Beyond}
use Rattle.values.specs.declared.pen.Pen.{Pen}

-- an event before others
abbrev pub put : Event → List Event → List Event
put Nothing es = es
put (Begin x y i) es = Begin x y i ∷ es
put (Line x y i) es = Line x y i ∷ es
put (EndOpen i) es = EndOpen i ∷ es
put (EndClosed i) es = EndClosed i ∷ es
put (Beyond i) es = Beyond i ∷ es

-- the point that a number of an axis completes, with the pen before and behind it, where it ends at i
abbrev pub point_at : Pen → Pen → Axis → ℕ → Event
point_at p q a i = cond (ends_point a) (cond p.fresh (Begin q.x q.y i) (Line q.x q.y i)) Nothing

-- a number: too large, "with the place of the number", or the point
abbrev pub number_at : Bool → ℕ → Pen → Pen → Axis → ℕ → Event
number_at large place p q a i = cond large (Beyond place) (point_at p q a i)

-- "M or the end of text ends a run open."
abbrev pub end_of : Bool → ℕ → Event
end_of inside i = cond inside (EndOpen i) Nothing

-- "Z after Z adds nothing."
abbrev pub close_of : Bool → ℕ → Event
close_of inside i = cond inside (EndClosed i) Nothing

-- "L after Z begins a run at the closed run's first point."
abbrev pub go_on_of : Bool → Pen → ℕ → Event
go_on_of inside p i = cond inside Nothing (Begin p.first_x p.first_y i)

abbrev pub command_of : Bool → Pen → Letter → ℕ → Event
command_of inside p letters.Move i = end_of inside i
command_of inside p letters.Line i = go_on_of inside p i
command_of inside p letters.Along i = go_on_of inside p i
command_of inside p letters.Close i = close_of inside i

abbrev pub letter_of : Bool → Pen → Class → ℕ → Event
letter_of inside p Blank i = Nothing
letter_of inside p Comma i = Nothing
letter_of inside p Sign i = Nothing
letter_of inside p Digit i = Nothing
letter_of inside p Dot i = Nothing
letter_of inside p (Command l) i = command_of inside p l i
letter_of inside p Other i = Nothing
