-- One outcome to each call: what it ensures leaves no choice of the numbers, and the numbers tell the case of the enum, which can be read back from them. Assumes nothing.
use Prim.Native.Nat.{ℕ}
use mathlib.Core.Path.{◌≡◌, refl, sym, ap, ◌∙◌}
use mathlib.Core.Bool.{cond}
use mathlib.Core.List.{List}
use lib.Dec.{eqb}
use lib.Ieee.{Float}
use Rattle.std.specs.Borrow.{Bor}
use Rattle.std.specs.Prelude.{Result, Ok, Err}
use Rattle.refusals.specs.Numbers.{number_of, accepted, out_of_range, too_many_verbs, misplaced_verb, vertex_room, no_run, too_many_cuts}
use Rattle.refusals.specs.declared.Refusal.{Refusal}
use Rattle.refusals.specs.declared.Refusal.TheVariants.{OutOfRange, TooManyVerbs, Verb, Coordinate, TooManyCuts}
use Rattle.options.specs.declared.Options.{Options}
use Rattle.mesh.specs.declared.answer.MeshAnswer.{MeshAnswer}
use Rattle.measure.specs.Answer.{measured_answer_of, part_answer_of}
use Rattle.measure.specs.Measure.{measure_of}
use Rattle.measure.specs.Part.{part_of, Handed, handed_answer_of, handed_of}
use Rattle.mesh.specs.declared.answer.MeshSize.{MeshSize}
use Rattle.measure.specs.declared.answer.Part.{Part}
use Rattle.measure.specs.declared.answer.PartError.{PartError}
use Rattle.measure.specs.declared.answer.PartError.TheVariants.{Refused, VertexRoom, NoRun}
use Rattle.measure.specs.declared.answer.PartAnswer.{PartAnswer}

-- ---- the numbers tell the case
refusal_of : ℕ → ℕ → Refusal
refusal_of number place =
    cond (eqb number (number_of out_of_range)) OutOfRange
    (cond (eqb number (number_of too_many_verbs)) TooManyVerbs (cond (eqb number (number_of misplaced_verb)) (Verb place) (cond (eqb number (number_of too_many_cuts)) TooManyCuts (Coordinate place))))

measured_back : MeshAnswer → Result MeshSize Refusal
measured_back a = cond (eqb a.number (number_of accepted)) (Ok (record { vertices = a.vertices; triangles = a.triangles })) (Err (refusal_of a.number a.place))

measured_is : (r : Result MeshSize Refusal) → measured_back (measured_answer_of r) ≡ r
unfolding measured_back refusal_of
measured_is (Ok size) = refl
measured_is (Err OutOfRange) = refl
measured_is (Err TooManyVerbs) = refl
measured_is (Err (Verb i)) = refl
measured_is (Err (Coordinate i)) = refl
measured_is (Err TooManyCuts) = refl

found_back : PartAnswer → Result Part PartError
found_back a =
    cond (eqb a.number (number_of accepted)) (Ok (record { start = a.start; length = a.length }))
    (cond (eqb a.number (number_of vertex_room)) (Err VertexRoom) (cond (eqb a.number (number_of no_run)) (Err NoRun) (Err (Refused (refusal_of a.number a.place)))))

found_is : (r : Result Part PartError) → found_back (part_answer_of r) ≡ r
unfolding found_back refusal_of
found_is (Ok part) = refl
found_is (Err (Refused OutOfRange)) = refl
found_is (Err (Refused TooManyVerbs)) = refl
found_is (Err (Refused (Verb i))) = refl
found_is (Err (Refused (Coordinate i))) = refl
found_is (Err (Refused TooManyCuts)) = refl
found_is (Err VertexRoom) = refl
found_is (Err NoRun) = refl

-- of a part that is handed back: whether there is one, and why not
abbrev pub case_of : Result (Bor (List Float)) PartError → Result Unit PartError
case_of (Ok part) = Ok tt
case_of (Err e) = Err e

handed_back : Handed → Result Unit PartError
handed_back a =
    cond (eqb a.number (number_of accepted)) (Ok tt)
    (cond (eqb a.number (number_of vertex_room)) (Err VertexRoom) (cond (eqb a.number (number_of no_run)) (Err NoRun) (Err (Refused (refusal_of a.number a.place)))))

handed_is : (r : Result (Bor (List Float)) PartError) → handed_back (handed_answer_of r) ≡ case_of r
unfolding handed_back refusal_of
handed_is (Ok part) = refl
handed_is (Err (Refused OutOfRange)) = refl
handed_is (Err (Refused TooManyVerbs)) = refl
handed_is (Err (Refused (Verb i))) = refl
handed_is (Err (Refused (Coordinate i))) = refl
handed_is (Err (Refused TooManyCuts)) = refl
handed_is (Err VertexRoom) = refl
handed_is (Err NoRun) = refl

-- ---- the calls
pub measure_one : (verbs : List ℕ) (coords : List Float) (options : Options) (ds : List Float) (r s : Result MeshSize Refusal)
    → measured_answer_of r ≡ measure_of verbs coords options ds → measured_answer_of s ≡ measure_of verbs coords options ds → (measured_answer_of r ≡ measured_answer_of s) × (r ≡ s)
measure_one verbs coords options ds r s h k = let e = h ∙ sym k in (e, sym (measured_is r) ∙ ap measured_back e ∙ measured_is s)

pub part_one : (verbs : List ℕ) (coords : List Float) (options : Options) (ds : List Float) (run floats : ℕ) (r s : Result Part PartError)
    → part_answer_of r ≡ part_of verbs coords options ds run floats → part_answer_of s ≡ part_of verbs coords options ds run floats → (part_answer_of r ≡ part_answer_of s) × (r ≡ s)
part_one verbs coords options ds run floats r s h k = let e = h ∙ sym k in (e, sym (found_is r) ∙ ap found_back e ∙ found_is s)

pub handed_one : (verbs : List ℕ) (coords : List Float) (options : Options) (ds : List Float) (run : ℕ) (v : List Float) (a b : Handed)
    → a ≡ handed_of verbs coords options ds run v → b ≡ handed_of verbs coords options ds run v → a ≡ b
handed_one verbs coords options ds run v a b h k = h ∙ sym k

pub handed_case_one : (verbs : List ℕ) (coords : List Float) (options : Options) (ds : List Float) (run : ℕ) (v : List Float) (r s : Result (Bor (List Float)) PartError)
    → handed_answer_of r ≡ handed_of verbs coords options ds run v → handed_answer_of s ≡ handed_of verbs coords options ds run v → (handed_answer_of r ≡ handed_answer_of s) × (case_of r ≡ case_of s)
handed_case_one verbs coords options ds run v r s h k = let e = h ∙ sym k in (e, sym (handed_is r) ∙ ap handed_back e ∙ handed_is s)
