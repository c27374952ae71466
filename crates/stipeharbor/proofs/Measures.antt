-- Measuring's answer and a part's, passed on; and that each of the two calls has one outcome. Assumes nothing.
use Prim.Native.Nat.{ℕ}
use mathlib.Core.Path.{◌≡◌, sym, ◌∙◌}
use mathlib.Core.List.{List, [], ◌∷◌}
use lib.Ieee.{Float}
use lib.ListN.{length}
use Rattle.lists.specs.Over.{over}
use Rattle.options.specs.declared.Options.{Options}
use Rattle.mesh.specs.declared.answer.MeshAnswer.{MeshAnswer}
use Rattle.measure.specs.Measure.{measure_of}
use Rattle.measure.specs.Part.{part_of}
use Rattle.measure.specs.declared.answer.PartAnswer.{PartAnswer}
use Rattle.stipeharbor.specs.Measuring.{Told, measure_out_of, part_out_of}

pub is_measured : (verbs : List ℕ) (coords : List Float) (options : Options) (dashes : List Float) (answer : List ℕ) {a : MeshAnswer} → a ≡ measure_of verbs coords options dashes
    → {answer' : List ℕ} → answer' ≡ over (a.place ∷ a.vertices ∷ a.triangles ∷ []) answer
    → record { number = a.number; answer = answer' } ≡ measure_out_of verbs coords options dashes answer
unfolding measure_out_of
is_measured verbs coords options dashes answer e w = rw (w, e)

pub is_part : (verbs : List ℕ) (coords : List Float) (options : Options) (dashes : List Float) (run : ℕ) (v : List Float) (answer : List ℕ) {a : PartAnswer} → a ≡ part_of verbs coords options dashes run (length v)
    → {answer' : List ℕ} → answer' ≡ over (a.place ∷ a.start ∷ a.length ∷ []) answer
    → record { number = a.number; answer = answer' } ≡ part_out_of verbs coords options dashes run v answer
unfolding part_out_of
is_part verbs coords options dashes run v answer e w = rw (w, e)

pub measure_out_one : (verbs : List ℕ) (coords : List Float) (options : Options) (dashes : List Float) (answer : List ℕ) (a b : Told)
    → a ≡ measure_out_of verbs coords options dashes answer → b ≡ measure_out_of verbs coords options dashes answer → a ≡ b
measure_out_one verbs coords options dashes answer a b h k = h ∙ sym k

pub part_out_one : (verbs : List ℕ) (coords : List Float) (options : Options) (dashes : List Float) (run : ℕ) (v : List Float) (answer : List ℕ) (a b : Told)
    → a ≡ part_out_of verbs coords options dashes run v answer → b ≡ part_out_of verbs coords options dashes run v answer → a ≡ b
part_out_one verbs coords options dashes run v answer a b h k = h ∙ sym k
