-- W-210: "measuring takes path and options and answers both counts or refusals 1 to 4", and 26 (W-213). Assumes nothing.
use Rattle.std.specs.Prelude.{ℕ, List, Float}
use Rattle.refusals.specs.Numbers.{number_of, accepted}
use Rattle.endpoint.specs.declared.Endpoint.{Endpoint}
use Rattle.options.specs.Options.{stroke_of}
use Rattle.options.specs.declared.Options.{Options}
use Rattle.options.specs.declared.Stroke.{Stroke}
use Rattle.cuts.specs.Checked.{cut_checked_of}
use Rattle.path.specs.Runs.{Run}
use Rattle.runs.specs.Runs.{path_runs, mesh_counts}
use Rattle.mesh.specs.Answer.{with_counts, with_place}
use Rattle.mesh.specs.declared.answer.MeshAnswer.{MeshAnswer}
use Rattle.measure.specs.Answer.{once_accepted}

-- both counts, by the definition that decides about room in the mesh call
abbrev pub counts_of : Stroke → List (Run Endpoint) → MeshAnswer
counts_of o rs = let c = mesh_counts o rs in with_counts (number_of accepted) c.vertices c.triangles

-- refusals 2, 3 and 4, and 26
unfoldable pub measured_of : List ℕ → List Float → Stroke → List Float → MeshAnswer
measured_of verbs coords o ds = let a = cut_checked_of o.near ds o.offset verbs coords in once_accepted with_place a.number a.place (counts_of o (path_runs o ds verbs coords))

-- refusal 1; the lengths of the dashes are ds
unfoldable pub measure_of : List ℕ → List Float → Options → List Float → MeshAnswer
measure_of verbs coords options ds = let a = stroke_of options ds in once_accepted with_place a.number a.place (measured_of verbs coords a.stroke ds)
