-- An exported call passes on what the library's call answered, turned into numbers and written over the start of the answer's list. Assumes nothing.
use Rattle.std.specs.Prelude.{Option}
use Prim.Native.Nat.{ℕ}
use mathlib.Core.Path.{◌≡◌, subst, sym}
use mathlib.Core.List.{List, [], ◌∷◌}
use lib.Ieee.{Float}
use Rattle.lists.specs.Over.{over}
use Rattle.refusals.specs.declared.Verdict.{Verdict}
use Rattle.root.specs.Answer.{Answers, answer_of}
use Rattle.root.specs.declared.Answer.{Answer}
use Rattle.plane.specs.Normal.{normal_answer_of, compute_normal_of}
use Rattle.plane.specs.Vector.{point}
use Rattle.plane.specs.declared.vector.Point.{Point}
use Rattle.plane.specs.declared.normal.NormalAnswer.{NormalAnswer}
use Rattle.options.specs.declared.Options.{Options}
use Rattle.pieces.specs.Piece.{Lists}
use Rattle.mesh.specs.Mesh.{outcome_of}
use Rattle.mesh.specs.declared.answer.MeshAnswer.{MeshAnswer}
use Rattle.reader.specs.Outcome as reader
use Rattle.reader.specs.Reads.{Reads}
use Rattle.reader.specs.declared.answer.ReadAnswer.{ReadAnswer}
use Rattle.stl.specs.Read.{read_of}
use Rattle.stl.specs.Write.{write_of}
use Rattle.stl.specs.declared.answer.StlAnswer.{StlAnswer}
use Rattle.widths.specs.Widths.{Outcome}
use Rattle.widths.specs.declared.answer.ListedAnswer.{ListedAnswer}
use Rattle.stipeharbor.specs.Calls.{tessellate_out_of, read_out_of, ReadsOut, root_out_of, RootsOut, normal_out_of, stl_write_out_of, stl_read_out_of, list_out_of, check_out_of}

pub is_tessellated : (verbs : List ℕ) (coords : List Float) (options : Options) (dashes : List Float) (l : Lists) (answer : List ℕ)
    → {l' : Lists} {r : MeshAnswer} → record { answer = r; lists = l' } ≡ outcome_of verbs coords options dashes l
    → {a : MeshAnswer} → a ≡ r → {answer' : List ℕ} → answer' ≡ over (a.place ∷ a.vertices ∷ a.triangles ∷ []) answer
    → record { number = a.number; answer = answer'; lists = l' } ≡ tessellate_out_of verbs coords options dashes l answer
unfolding tessellate_out_of
is_tessellated verbs coords options dashes l answer h e w = rw (← h, ← e, w)

pub reads_out : (text verbs : List ℕ) (coords : List Float) (answer : List ℕ) (o : reader.Outcome) → Reads text verbs coords o
    → (a : ReadAnswer) → a ≡ o.answer
    → (answer' : List ℕ) → answer' ≡ over (a.place ∷ a.verbs ∷ a.coords ∷ []) answer
    → ReadsOut text verbs coords answer (record { number = a.number; answer = answer'; verbs = o.verbs; coords = o.coords })
unfolding read_out_of
reads_out text verbs coords answer o h a e answer' w = record { outcome = o; reads = h; passed = rw (← e, w) }

pub roots_out : (x : Float) (value : List Float) (r : Option Float) → Answers x (answer_of r)
    → (a : Answer) → a ≡ answer_of r
    → (value' : List Float) → value' ≡ over (a.value ∷ []) value
    → RootsOut x value (record { number = a.number; floats = value' })
unfolding root_out_of
roots_out x value r h a e value' w = record { answer = a; answers = subst (λ (b : Answer). Answers x b) (sym e) h; passed = rw w }

pub normal_out : (x1 y1 x2 y2 : Float) (normal : List Float) (d : Option Point) → normal_answer_of d ≡ compute_normal_of (point x1 y1) (point x2 y2)
    → (a : NormalAnswer) → a ≡ normal_answer_of d
    → (normal' : List Float) → normal' ≡ over (a.x ∷ a.y ∷ []) normal
    → record { number = a.number; floats = normal' } ≡ normal_out_of x1 y1 x2 y2 normal
unfolding normal_out_of
normal_out x1 y1 x2 y2 normal d h a e normal' w = rw (← h, ← e, w)

pub stl_written : (v : List Float) (t bytes bytes' answer : List ℕ) (r : StlAnswer) → record { answer = r; bytes = bytes' } ≡ write_of v t bytes
    → (a : StlAnswer) → a ≡ r
    → (answer' : List ℕ) → answer' ≡ over (a.place ∷ a.count ∷ []) answer
    → record { number = a.number; answer = answer'; bytes = bytes' } ≡ stl_write_out_of v t bytes answer
unfolding stl_write_out_of
stl_written v t bytes bytes' answer r h a e answer' w = rw (← h, ← e, w)

pub stl_corners : (bytes : List ℕ) (corners corners' : List Float) (answer : List ℕ) (r : StlAnswer) → record { answer = r; corners = corners' } ≡ read_of bytes corners
    → (a : StlAnswer) → a ≡ r
    → (answer' : List ℕ) → answer' ≡ over (a.place ∷ a.count ∷ []) answer
    → record { number = a.number; answer = answer'; corners = corners' } ≡ stl_read_out_of bytes corners answer
unfolding stl_read_out_of
stl_corners bytes corners corners' answer r h a e answer' w = rw (← h, ← e, w)

pub listed : (o : Outcome) (list' answer : List ℕ) (r : ListedAnswer) → record { answer = r; list = list' } ≡ o
    → (a : ListedAnswer) → a ≡ r
    → (answer' : List ℕ) → answer' ≡ over (a.place ∷ a.count ∷ []) answer
    → record { number = a.number; answer = answer'; list = list' } ≡ list_out_of o answer
unfolding list_out_of
listed o list' answer r h a e answer' w = rw (← h, ← e, w)

pub checked_out : (v : Verdict) (answer : List ℕ) (r : Verdict) → r ≡ v → (answer' : List ℕ) → answer' ≡ over (r.place ∷ []) answer → record { number = r.number; answer = answer' } ≡ check_out_of v answer
unfolding check_out_of
checked_out v answer r e answer' w = rw (← e, w)
