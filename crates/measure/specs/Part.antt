-- W-210: "the part of the vertex list that the run of a given number, from 0 over the begin verbs, wrote", or "1 to 4, then 6 for a list too short for the whole mesh,
-- then 19, no run of that number; each with an empty part". W-213: 26 behind 4, and "W-210's number of the uncut": a run's part has all its dashes. Assumes nothing.
use Rattle.std.specs.Prelude.{ℕ, ◌*◌, ◌/◌, cond, List, [], Result, Ok, Err, ltb, eqb, Float, length, take, drop}
use Rattle.std.specs.Borrow.{Bor}
use Rattle.refusals.specs.Numbers.{number_of, accepted, vertex_room, no_run}
use Rattle.endpoint.specs.declared.Endpoint.{Endpoint}
use Rattle.options.specs.Options.{stroke_of}
use Rattle.options.specs.declared.Options.{Options}
use Rattle.options.specs.declared.Stroke.{Stroke}
use Rattle.cuts.specs.Checked.{cut_checked_of}
use Rattle.path.specs.Runs.{Run}
use Rattle.runs.specs.Part.{run_at}
use Rattle.runs.specs.Runs.{runs_of, cut_of, mesh_count, mesh_counts}
use Rattle.measure.specs.Answer.{with_part, without_part, part_answer_of, once_accepted}
use Rattle.measure.specs.declared.answer.PartAnswer.{PartAnswer}
use Rattle.measure.specs.declared.answer.PartError.{PartError}

-- of so many vertices behind so many others: five floats each; an empty part begins at 0
unfoldable pub part_at : ℕ → ℕ → PartAnswer
part_at before own = cond (eqb own 0) (with_part 0 0) (with_part (5 * before) (5 * own))

-- Refusals 6 and 19, in their order, of an accepted path: "Room is the list's length over 5, rounded down". A run that drew nothing is no 19.
unfoldable pub found_of : Stroke → List Float → List (Run Endpoint) → ℕ → ℕ → PartAnswer
found_of o ds rs k places =
    cond (ltb places (mesh_counts o (cut_of o ds rs)).vertices) (without_part (number_of vertex_room) 0)
    (cond (ltb k (length rs)) (part_at (mesh_count o (cut_of o ds (take k rs))) (mesh_count o (cut_of o ds (run_at k rs)))) (without_part (number_of no_run) 0))

-- refusals 2, 3 and 4, and 26
unfoldable pub stroked_part_of : List ℕ → List Float → Stroke → List Float → ℕ → ℕ → PartAnswer
stroked_part_of verbs coords o ds k floats =
    let a = cut_checked_of o.near ds o.offset verbs coords in once_accepted without_part a.number a.place (found_of o ds (runs_of verbs coords) k (floats / 5))

-- refusal 1; the lengths of the dashes are ds; the run of the number k, and a list of so many floats
unfoldable pub part_of : List ℕ → List Float → Options → List Float → ℕ → ℕ → PartAnswer
part_of verbs coords options ds k floats = let a = stroke_of options ds in once_accepted without_part a.number a.place (stroked_part_of verbs coords a.stroke ds k floats)

-- what the call hands back of a list, and tells
pub record Handed : Type 0 where
  pub number : ℕ
  pub place : ℕ
  pub part : List Float

-- `run_vertices`' answer: the number, the place and the part; "each with an empty part"
abbrev pub handed_answer_of : Result (Bor (List Float)) PartError → Handed
handed_answer_of (Ok part) = record { number = number_of accepted; place = 0; part = part.now }
handed_answer_of (Err e) = let a = part_answer_of (Err e) in record { number = a.number; place = a.place; part = [] }

unfoldable pub handed_of : List ℕ → List Float → Options → List Float → ℕ → List Float → Handed
handed_of verbs coords options ds k v = let a = part_of verbs coords options ds k (length v) in record { number = a.number; place = a.place; part = take a.length (drop a.start v) }
