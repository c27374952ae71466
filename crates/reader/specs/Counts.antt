-- What events come to: verbs, coordinates, and the first number that is too large. Assumes nothing.
use Rattle.std.specs.Prelude.{ℕ, ◌+◌, min, List, [], ◌∷◌, ◌++◌, Float, Option, Some, None}
use Rattle.std.specs.Option.{option_or}
use Rattle.path.specs.Verbs.{begin, line, end_open, end_closed}
use Rattle.values.specs.declared.events.Event.{Event}
use Rattle.values.specs.declared.events.Event.TheVariants.{Nothing, Begin, Line, EndOpen, EndClosed, Beyond}
use Rattle.reader.specs.declared.counts.Counts.{Counts}

-- the verb of an event
abbrev pub verb_of : Event → List ℕ
verb_of Nothing = []
verb_of (Begin x y i) = begin ∷ []
verb_of (Line x y i) = line ∷ []
verb_of (EndOpen i) = end_open ∷ []
verb_of (EndClosed i) = end_closed ∷ []
verb_of (Beyond i) = []

-- its coordinates, "two to each begin or line"
abbrev pub coords_at : Event → List Float
coords_at Nothing = []
coords_at (Begin x y i) = x ∷ y ∷ []
coords_at (Line x y i) = x ∷ y ∷ []
coords_at (EndOpen i) = []
coords_at (EndClosed i) = []
coords_at (Beyond i) = []

-- its place, where it is a number that is too large
abbrev pub large_of : Event → Option ℕ
large_of Nothing = None
large_of (Begin x y i) = None
large_of (Line x y i) = None
large_of (EndOpen i) = None
large_of (EndClosed i) = None
large_of (Beyond i) = Some i

-- the same of all events of a text: its path, and "the first such" number
abbrev pub verbs_of : List Event → List ℕ
verbs_of [] = []
verbs_of (e ∷ es) = verb_of e ++ verbs_of es

abbrev pub coords_of : List Event → List Float
coords_of [] = []
coords_of (e ∷ es) = coords_at e ++ coords_of es

abbrev pub first_large : List Event → Option ℕ
first_large [] = None
first_large (e ∷ es) = option_or (large_of e) (first_large es)

-- Where the next verb and coordinates are put: behind so many. A number that is too large takes all the places there are, and nothing is put behind it.
abbrev pub all_places : ℕ
all_places = 18446744073709551615

abbrev pub capped : ℕ → ℕ
capped n = min n all_places

abbrev pub verb_count : Event → ℕ
verb_count Nothing = 0
verb_count (Begin x y i) = 1
verb_count (Line x y i) = 1
verb_count (EndOpen i) = 1
verb_count (EndClosed i) = 1
verb_count (Beyond i) = all_places

abbrev pub coord_count : Event → ℕ
coord_count Nothing = 0
coord_count (Begin x y i) = 2
coord_count (Line x y i) = 2
coord_count (EndOpen i) = 0
coord_count (EndClosed i) = 0
coord_count (Beyond i) = all_places

abbrev pub no_counts : Counts
no_counts = record { verbs = 0; coords = 0; large = None }

abbrev pub added_of : Counts → Event → Counts
added_of c e = record { verbs = capped (c.verbs + verb_count e); coords = capped (c.coords + coord_count e); large = option_or c.large (large_of e) }
