-- What the call for a run's part makes of what a pass tells; it is `found_of` of the runs that were passed (proofs/Judging.antt). Assumes nothing.
use Rattle.std.specs.Prelude.{ℕ, ◌-◌, ◌≤◌, ◌<◌, cond, ltb}
use Rattle.refusals.specs.Numbers.{number_of, vertex_room, no_run}
use Rattle.endpoint.specs.Endpoint.{id_limit}
use Rattle.runs.specs.declared.part.Told.{Told}
use Rattle.measure.specs.Answer.{without_part}
use Rattle.measure.specs.Part.{part_at}
use Rattle.measure.specs.declared.answer.PartAnswer.{PartAnswer}

-- a u32 holds the counts, and a run's vertices end no earlier than they begin
pub record Judgeable (told : Told) : Type 0 where
  pub order : told.seen.before ≤ told.seen.through
  pub few : told.seen.through < id_limit

unfoldable pub judged_of : Told → ℕ → ℕ → PartAnswer
judged_of told k places =
    cond (ltb places told.place.vertices) (without_part (number_of vertex_room) 0)
    (cond (ltb k told.seen.ended) (part_at told.seen.before (told.seen.through - told.seen.before)) (without_part (number_of no_run) 0))
