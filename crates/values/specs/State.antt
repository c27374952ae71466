-- The state between two bytes, and what the bytes of a text call for in turn. Assumes nothing.
use Rattle.std.specs.Prelude.{ℕ, ◌-◌, ◌+◌, Bool, true, false, List, [], ◌∷◌, length}
use Rattle.form.specs.declared.classes.Class.{Class}
use Rattle.form.specs.declared.classes.Class.TheVariants.{Command}
use Rattle.form.specs.declared.classes.Letter.TheVariants.{Move}
use Rattle.form.specs.declared.machine.Mode.{Mode}
use Rattle.form.specs.Bytes.{class_of}
use Rattle.form.specs.Machine.{start, row_of, ends_before, axis_at, is_inside, next_of}
use Rattle.values.specs.declared.events.Event.{Event}
use Rattle.values.specs.declared.events.Event.TheVariants.{Nothing}
use Rattle.values.specs.declared.known.Known.{Known}
use Rattle.values.specs.declared.state.Called.{Called}
use Rattle.values.specs.declared.state.Settled.{Settled}
use Rattle.values.specs.declared.state.State.{State}
use Rattle.values.specs.declared.state.Took.{Took}
use Rattle.values.specs.Events.{put, number_at, letter_of}
use Rattle.values.specs.Known.{nothing_known, with_pen, amount_of, float_of, taken_of}
use Rattle.values.specs.Pen.{is_large, placed_of}

abbrev pub started : State
started = record { mode = start; known = nothing_known }

-- a number that ends at a place, by the mode in which it does
abbrev pub settle_of : Mode → Known → ℕ → Settled
settle_of m v end =
    let c = float_of v m.places in
    let q = placed_of v.pen m.axis c in
    record { known = with_pen v q; event = number_at (is_large (amount_of v m.places) v.pen m.axis c) v.place v.pen q m.axis end }

abbrev pub settle_if : Bool → Mode → Known → ℕ → Settled
settle_if true m v end = settle_of m v end
settle_if false m v end = record { known = v; event = Nothing }

-- what a byte of a class calls for: by the number that ends before it, then by itself
abbrev pub called_by : State → Class → ℕ → ℕ → Called
called_by s k place behind =
    let m = s.mode in
    let ended = ends_before (row_of m.stage).going k in
    record { number = (settle_if ended m s.known place).event; letter = letter_of (is_inside m.stage (axis_at ended m.axis)) s.known.pen k behind }

abbrev pub called_of : State → ℕ → ℕ → ℕ → Called
called_of s b place behind = called_by s (class_of b) place behind

-- "M or the end of text": that calls for what an M would
abbrev pub ended_of : State → ℕ → ℕ → Called
ended_of s place behind = called_by s (Command Move) place behind

-- the state after a byte b of a class, at a place
abbrev pub step_by : State → ℕ → Class → ℕ → State
step_by s b k place =
    let m = s.mode in
    record { mode = next_of m k; known = taken_of (row_of m.stage).going b k place (settle_if (ends_before (row_of m.stage).going k) m s.known place).known }

abbrev pub step_of : State → ℕ → ℕ → State
step_of s b place = step_by s b (class_of b) place

abbrev pub took_of : State → ℕ → ℕ → ℕ → Took
took_of s b place behind = record { state = step_of s b place; called = called_of s b place behind }

-- what is called for, before other events
abbrev pub in_turn : Called → List Event → List Event
in_turn c es = put c.number (put c.letter es)

-- what the rest of a text of n bytes calls for
abbrev pub events_from : ℕ → State → List ℕ → List Event
events_from n s [] = in_turn (ended_of s n (n + 1)) []
events_from n s (b ∷ bs) = in_turn (called_of s b (n - length (b ∷ bs)) (n - length bs)) (events_from n (step_of s b (n - length (b ∷ bs))) bs)

-- what a text calls for
abbrev pub events_in : List ℕ → List Event
events_in text = events_from (length text) started text
