-- What a text of the form means, by document 01's paragraph "Path text" and W-204: the events that it calls for, in turn, where n is the length of the
-- text. Assumes nothing.
use Rattle.std.specs.Prelude.{ℕ, ◌+◌, ◌-◌, Bool, true, false, cond, List, [], ◌∷◌, eqb, length, Float}
use Rattle.decimals.specs.Decimals.{value_of}
use Rattle.decimals.specs.Digits.{beyond_of, kept_of, decimal_of}
use Rattle.decimals.specs.Digits as decimals
use Rattle.form.specs.declared.classes.Letter.TheVariants.{Move, Line, Along}
use Rattle.form.specs.declared.machine.Axis.{Axis}
use Rattle.form.specs.Machine.{after}
use Rattle.form.specs.Form.{bytes, places, Tail, none, point, Decimal, digits, dotted, Number, bare, signed, number, number_of, More}
use Rattle.form.specs.Form.{stop, more, numbers, Points, points, Drawing, move, line, along, close, commands, Text, empty, drawn}
use Rattle.values.specs.declared.events.Event.{Event}
use Rattle.values.specs.declared.pen.Pen.{Pen}
use Rattle.values.specs.Events.{put, number_at, end_of, close_of, go_on_of}
use Rattle.values.specs.Pen.{resting_pen, is_large, placed_of, home_of, lettered_of}

-- the digits before the point, and those after it
abbrev pub tail_digits : Tail → List ℕ
tail_digits none = []
tail_digits (point p ds) = places ds []

abbrev pub whole_digits : Decimal → List ℕ
whole_digits (digits d ds t) = d.code ∷ bytes ds []
whole_digits (dotted p ds) = []

abbrev pub fraction_digits : Decimal → List ℕ
fraction_digits (digits d ds t) = tail_digits t
fraction_digits (dotted p ds) = places ds []

abbrev pub size_of : Number → Decimal
size_of (bare d) = d
size_of (signed g d) = d

abbrev pub minus_of : Number → Bool
minus_of (bare d) = false
minus_of (signed g d) = eqb g.code 45

-- "its exact decimal", in millionths
abbrev pub exact_of : Number → ℕ
exact_of m = decimals.exact_of (whole_digits (size_of m)) (fraction_digits (size_of m))

-- "A number becomes the nearest f32 of its exact decimal, ties to even." One that is too large has none that is read: there it is that of the digits
-- that are kept.
abbrev pub number_float : Number → Float
number_float m =
    let ws = whole_digits (size_of m) in
    let fs = fraction_digits (size_of m) in
    cond (beyond_of (exact_of m)) (value_of (minus_of m) (kept_of ws fs)) (decimal_of (minus_of m) ws fs)

-- the pen behind a number of an axis
abbrev pub placed_by : Pen → Axis → Number → Pen
placed_by p a m = placed_of p a (number_float m)

-- a number, where r follows it: too large, by its exact decimal or by the coordinate that it comes to, at its first byte; or the point that it completes
abbrev pub number_events : ℕ → Pen → Axis → Number → List ℕ → List Event → List Event
number_events n p a m r es =
    put (number_at (is_large (exact_of m) p a (number_float m)) (n - length (number m r)) p (placed_by p a m) a (n - length r)) es

-- the numbers behind one, and what the pen that they leave calls for: "Further pairs after M are lines", and so are those after L
abbrev pub more_events : ℕ → Pen → {a : Axis} {h : Bool} → More a h → List ℕ → (Pen → List Event) → List Event
more_events n p (stop e) r es = es p
more_events n p {a} (more x ms) r es = number_events n p (after a) (number_of x) (numbers ms r) (more_events n (placed_by p (after a) (number_of x)) ms r es)

abbrev pub point_events : ℕ → Pen → {a : Axis} → Points a → List ℕ → (Pen → List Event) → List Event
point_events n p {a} ps r es = number_events n p a ps.first (numbers ps.others r) (more_events n (placed_by p a ps.first) ps.others r es)

-- Commands that follow, inside a run or behind one: "L after Z begins a run at the closed run's first point. Z after Z adds nothing. M or the end of
-- text ends a run open."
abbrev pub command_events : ℕ → Bool → Pen → List Drawing → List Event
command_events n inside p [] = put (end_of inside (n + 1)) []
command_events n inside p (move l ps bs ∷ cs) =
    put (end_of inside (n - length (points ps (bytes bs (commands cs [])))))
    (point_events n (lettered_of p Move l.code) ps (bytes bs (commands cs [])) (λ q. command_events n true q cs))
command_events n inside p (line l ps bs ∷ cs) =
    put (go_on_of inside p (n - length (points ps (bytes bs (commands cs [])))))
    (point_events n (lettered_of p Line l.code) ps (bytes bs (commands cs [])) (λ q. command_events n true q cs))
command_events n inside p (along l ps bs ∷ cs) =
    put (go_on_of inside p (n - length (points ps (bytes bs (commands cs [])))))
    (point_events n (lettered_of p Along l.code) ps (bytes bs (commands cs [])) (λ q. command_events n true q cs))
command_events n inside p (close z bs ∷ cs) = put (close_of inside (n - length (bytes bs (commands cs [])))) (command_events n false (home_of p) cs)

abbrev pub events_of : ℕ → Text → List Event
events_of n (empty bs) = []
events_of n (drawn bs l ps cs ds) = point_events n (lettered_of resting_pen Move l.code) ps (bytes cs (commands ds [])) (λ q. command_events n true q ds)
