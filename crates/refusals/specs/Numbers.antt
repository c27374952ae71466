-- "What each number means" of document 01, and the numbers that document 02 adds: the one place where the numbers stand. Assumes nothing.
use Rattle.std.specs.Prelude.{ℕ}
use Rattle.refusals.specs.declared.Refusal.{Refusal}
use Rattle.refusals.specs.declared.Refusal.TheVariants.{OutOfRange, TooManyVerbs, Verb, Coordinate, TooManyCuts}
use Rattle.refusals.specs.declared.Verdict.{Verdict}

pub data Meaning : Type 0 where
  -- "accepted"
  accepted : Meaning
  -- "an option outside its range, NaN included"
  out_of_range : Meaning
  -- "more than 4,096 verbs", since W-205 65,536
  too_many_verbs : Meaning
  -- "unknown verb, begin inside a run, line or end outside, list ends inside; or coordinates not exactly two per begin or line"
  misplaced_verb : Meaning
  -- "a coordinate not finite or too large"
  bad_coordinate : Meaning
  -- W-207: "5 is retired." No meaning has it: what it meant, and that it was never earned, is crates/far
  -- "too few vertex places"
  vertex_room : Meaning
  -- "too few triangle places"
  triangle_room : Meaning
  -- "path text over 16,384 bytes", since W-205 1 MiB
  long_text : Meaning
  -- "text not in the form below"
  malformed_text : Meaning
  -- "a number beyond 32,768 in size"
  large_number : Meaning
  -- "reader's lent verb or coordinate list too short, or over 4,096 verbs", since W-205 65,536
  reader_room : Meaning
  -- "window: `get` at or past the count; `replace_last` when empty"
  window_refused : Meaning
  -- "root of a negative, -0, infinite or NaN"
  no_root : Meaning
  -- W-202: "byte list too short to write"
  file_room : Meaning
  -- "length below 84 or not 84 plus 50 times the count"
  file_length : Meaning
  -- "a corner that is not finite, a z that isn't zero or, in writing, a triangle number that has no vertex"
  bad_corner : Meaning
  -- "too little room to read"; W-205: "also when a list to widen or narrow into is too short"
  list_room : Meaning
  -- W-205: "a number too large to narrow"
  wide_number : Meaning
  -- W-210: "no run of that number"
  no_run : Meaning
  -- W-211: "length"
  list_length : Meaning
  -- "number too large"
  number_too_large : Meaning
  -- "two alike"
  two_alike : Meaning
  -- "vertex unnamed"
  vertex_unnamed : Meaning
  -- "not attached"
  not_attached : Meaning
  -- W-212: "a call after the closing one with no new start"
  after_close : Meaning
  -- W-213: "over 65,536 cut points in all"
  too_many_cuts : Meaning

abbrev pub number_of : Meaning → ℕ
number_of accepted = 0
number_of out_of_range = 1
number_of too_many_verbs = 2
number_of misplaced_verb = 3
number_of bad_coordinate = 4
number_of vertex_room = 6
number_of triangle_room = 7
number_of long_text = 8
number_of malformed_text = 9
number_of large_number = 10
number_of reader_room = 11
number_of window_refused = 12
number_of no_root = 13
number_of file_room = 14
number_of file_length = 15
number_of bad_corner = 16
number_of list_room = 17
number_of wide_number = 18
number_of no_run = 19
number_of list_length = 20
number_of number_too_large = 21
number_of two_alike = 22
number_of vertex_unnamed = 23
number_of not_attached = 24
number_of after_close = 25
number_of too_many_cuts = 26

-- a row of the table, with its place
abbrev pub verdict : Meaning → ℕ → Verdict
verdict meaning place = record { number = number_of meaning; place = place }

-- what each case of refusals 1 to 4 stands for, and of 26, "place 0, directly after 4"
abbrev pub verdict_of : Refusal → Verdict
verdict_of OutOfRange = verdict out_of_range 0
verdict_of TooManyVerbs = verdict too_many_verbs 0
verdict_of (Verb i) = verdict misplaced_verb i
verdict_of (Coordinate i) = verdict bad_coordinate i
verdict_of TooManyCuts = verdict too_many_cuts 0
