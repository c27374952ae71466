-- What the cases of both answers stand for, in the terms of document 01's table. Assumes nothing.
use Rattle.std.specs.Prelude.{ℕ, cond, Result, Ok, Err, eqb}
use Rattle.refusals.specs.Numbers.{number_of, verdict_of, accepted, vertex_room, no_run}
use Rattle.refusals.specs.declared.Refusal.{Refusal}
use Rattle.mesh.specs.Answer.{with_counts, with_place}
use Rattle.mesh.specs.declared.answer.MeshAnswer.{MeshAnswer}
use Rattle.mesh.specs.declared.answer.MeshSize.{MeshSize}
use Rattle.measure.specs.declared.answer.Part.{Part}
use Rattle.measure.specs.declared.answer.PartError.{PartError}
use Rattle.measure.specs.declared.answer.PartError.TheVariants.{Refused, VertexRoom, NoRun}
use Rattle.measure.specs.declared.answer.PartAnswer.{PartAnswer}

-- `measure`'s: the number, the place and both counts
abbrev pub measured_answer_of : Result MeshSize Refusal → MeshAnswer
measured_answer_of (Ok size) = with_counts (number_of accepted) size.vertices size.triangles
measured_answer_of (Err r) = let a = verdict_of r in with_place a.number a.place

-- "0", and so many floats from a start on
abbrev pub with_part : ℕ → ℕ → PartAnswer
with_part start length = record { number = number_of accepted; place = 0; start = start; length = length }

-- "each with an empty part"
abbrev pub without_part : ℕ → ℕ → PartAnswer
without_part number place = record { number = number; place = place; start = 0; length = 0 }

-- `find_run`'s: the number, the place and the part
abbrev pub part_answer_of : Result Part PartError → PartAnswer
part_answer_of (Ok part) = with_part part.start part.length
part_answer_of (Err (Refused r)) = let a = verdict_of r in without_part a.number a.place
part_answer_of (Err VertexRoom) = without_part (number_of vertex_room) 0
part_answer_of (Err NoRun) = without_part (number_of no_run) 0

-- "Order is by number within a call": what is refused before, with its place, or what comes then
abbrev pub once_accepted : {A : Type 0} → (ℕ → ℕ → A) → ℕ → ℕ → A → A
once_accepted refusing number place next = cond (eqb number (number_of accepted)) next (refusing number place)
