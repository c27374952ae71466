-- Both questions: "it gives the first fault in that order". Assumes nothing.
use Rattle.std.specs.Prelude.{ℕ, Bool, cond, List, Result, Ok, Err, ltb, length}
use Rattle.refusals.specs.Numbers.{Meaning, verdict, accepted, list_length, number_too_large, two_alike, vertex_unnamed, not_attached}
use Rattle.refusals.specs.declared.Verdict.{Verdict}
use Rattle.inspect.specs.Faults.{triangle_count, uneven, too_large, alike, unnamed, loose}
use Rattle.inspect.specs.First.{first}
use Rattle.inspect.specs.declared.answer.Fault.{Fault}
use Rattle.inspect.specs.declared.answer.Fault.TheVariants.{Length, TooLarge, Alike, Unnamed, NotAttached}

abbrev pub sound : Verdict
sound = verdict accepted 0

-- the number and the place of each fault, and what a question's answer stands for
abbrev pub fault_of : Fault → Verdict
fault_of Length = verdict list_length 0
fault_of (TooLarge i) = verdict number_too_large i
fault_of (Alike t) = verdict two_alike t
fault_of (Unnamed v) = verdict vertex_unnamed v
fault_of (NotAttached t) = verdict not_attached t

abbrev pub checked_of : Result (Unit {0}) Fault → Verdict
checked_of (Ok u) = sound
checked_of (Err f) = fault_of f

-- the fault of that meaning at the first of n places of which the test is true; where there is none, what is asked next
unfoldable pub first_fault : Meaning → (ℕ → Bool) → ℕ → Verdict → Verdict
first_fault fault test n next = cond (ltb (first test n) n) (verdict fault (first test n)) next

-- "20 length (place 0), 21 number too large (its index), 22 two alike (the triangle), 23 vertex unnamed (the smallest)", then what is asked next
unfoldable pub faults_then : ℕ → List ℕ → Verdict → Verdict
faults_then count l next =
    cond (uneven l) (verdict list_length 0)
    (first_fault number_too_large (too_large count l) (length l)
    (first_fault two_alike (alike l) (triangle_count l)
    (first_fault vertex_unnamed (unnamed l) count next)))

-- "24 not attached (the triangle)"
abbrev pub attached_of : List ℕ → Verdict
attached_of l = first_fault not_attached (loose l) (triangle_count l) sound

abbrev pub check_of : ℕ → List ℕ → Verdict
check_of count l = faults_then count l sound

-- "A second question, after the same tests"
abbrev pub check_attached_of : ℕ → List ℕ → Verdict
check_attached_of count l = faults_then count l (attached_of l)
