-- Any two outcomes that a call's contract allows are the same: number, place and count, the result that stands for them, and the lent list whole. Assumes nothing.
use Prim.Native.Nat.{ℕ}
use mathlib.Core.Path.{◌≡◌, refl, sym, ap, ◌∙◌}
use mathlib.Core.Bool.{cond}
use mathlib.Core.List.{List}
use lib.Dec.{eqb}
use lib.Ieee.{Float}
use Rattle.refusals.specs.Numbers.{number_of, accepted, file_room, file_length, bad_corner}
use Rattle.std.specs.Prelude.{Result, Ok, Err}
use Rattle.stl.specs.Answer.{written_answer_of, corners_answer_of}
use Rattle.stl.specs.Read.{ReadOutcome, read_of}
use Rattle.stl.specs.Write.{WriteOutcome, write_of}
use Rattle.stl.specs.declared.answer.ReadError.{ReadError}
use Rattle.stl.specs.declared.answer.ReadError.TheVariants as read
use Rattle.stl.specs.declared.answer.StlAnswer.{StlAnswer}
use Rattle.stl.specs.declared.answer.WriteError.{WriteError}
use Rattle.stl.specs.declared.answer.WriteError.TheVariants as write

-- ---- the numbers of an answer tell its case
written : StlAnswer → Result ℕ WriteError
written a = cond (eqb a.number (number_of accepted)) (Ok a.count) (cond (eqb a.number (number_of file_room)) (Err write.FileRoom) (Err (write.Corner a.place)))

written_is : (r : Result ℕ WriteError) → written (written_answer_of r) ≡ r
unfolding written
written_is (Ok n) = refl
written_is (Err write.FileRoom) = refl
written_is (Err (write.Corner k)) = refl

corners : StlAnswer → Result ℕ ReadError
corners a =
    cond (eqb a.number (number_of accepted)) (Ok a.count)
    (cond (eqb a.number (number_of file_length)) (Err read.FileLength)
    (cond (eqb a.number (number_of bad_corner)) (Err (read.Corner a.place)) (Err read.ListRoom)))

corners_is : (r : Result ℕ ReadError) → corners (corners_answer_of r) ≡ r
unfolding corners
corners_is (Ok n) = refl
corners_is (Err read.FileLength) = refl
corners_is (Err (read.Corner k)) = refl
corners_is (Err read.ListRoom) = refl

-- ---- stl_write and stl_read
pub write_one : (v : List Float) (t b : List ℕ) (r s : Result ℕ WriteError) (b1 b2 : List ℕ)
    → record { answer = written_answer_of r; bytes = b1 } ≡ write_of v t b → record { answer = written_answer_of s; bytes = b2 } ≡ write_of v t b
    → (written_answer_of r ≡ written_answer_of s) × (r ≡ s) × (b1 ≡ b2)
write_one v t b r s b1 b2 h k =
    let e = h ∙ sym k in
    let n = ap (λ (o : WriteOutcome). o.answer) e in
    (n, sym (written_is r) ∙ ap written n ∙ written_is s, ap (λ (o : WriteOutcome). o.bytes) e)

pub read_one : (b : List ℕ) (c : List Float) (r s : Result ℕ ReadError) (c1 c2 : List Float)
    → record { answer = corners_answer_of r; corners = c1 } ≡ read_of b c → record { answer = corners_answer_of s; corners = c2 } ≡ read_of b c
    → (corners_answer_of r ≡ corners_answer_of s) × (r ≡ s) × (c1 ≡ c2)
read_one b c r s c1 c2 h k =
    let e = h ∙ sym k in
    let n = ap (λ (o : ReadOutcome). o.answer) e in
    (n, sym (corners_is r) ∙ ap corners n ∙ corners_is s, ap (λ (o : ReadOutcome). o.corners) e)
