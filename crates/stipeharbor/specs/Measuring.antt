-- What stipeharbor_measure and stipeharbor_run_part answer: document 01's number, and the answer's list whole. Assumes nothing.
use Rattle.std.specs.Prelude.{ℕ, List, [], ◌∷◌, Float, length}
use Rattle.lists.specs.Over.{over}
use Rattle.options.specs.declared.Options.{Options}
use Rattle.measure.specs.Measure.{measure_of}
use Rattle.measure.specs.Part.{part_of}

pub record Told : Type 0 where
  pub number : ℕ
  pub answer : List ℕ

-- "place", then "both counts"
unfoldable pub measure_out_of : List ℕ → List Float → Options → List Float → List ℕ → Told
measure_out_of verbs coords options dashes answer =
    let a = measure_of verbs coords options dashes in
    record { number = a.number; answer = over (a.place ∷ a.vertices ∷ a.triangles ∷ []) answer }

-- the place, then where the part stands in the vertex list v
unfoldable pub part_out_of : List ℕ → List Float → Options → List Float → ℕ → List Float → List ℕ → Told
part_out_of verbs coords options dashes run v answer =
    let a = part_of verbs coords options dashes run (length v) in
    record { number = a.number; answer = over (a.place ∷ a.start ∷ a.length ∷ []) answer }
