-- Any two outcomes that an exported call's contract allows are the same: the number and every lent list whole. Assumes nothing.
use Prim.Native.Nat.{ℕ}
use mathlib.Core.Path.{◌≡◌, sym, ap, ◌∙◌}
use mathlib.Core.List.{List}
use lib.Ieee.{Float}
use Rattle.refusals.specs.declared.Verdict.{Verdict}
use Rattle.root.specs.declared.Answer.{Answer}
use Rattle.root.proofs.Laws.{one_answer}
use Rattle.options.specs.declared.Options.{Options}
use Rattle.pieces.specs.Piece.{Lists}
use Rattle.reader.specs.Outcome as reader
use Rattle.reader.proofs.Meets.{same_outcome}
use Rattle.radio_words.specs.Calls.{Started, start_of, Taken, take_of}
use Rattle.stipeharbor.specs.Calls.{Tessellated, tessellate_out_of, ReadOut, read_out_of, ReadsOut, FloatsOut, root_out_of, RootsOut, normal_out_of, StlWritten, stl_write_out_of, StlCorners, stl_read_out_of, ListOut, widen_out_of, narrow_out_of, CheckOut, check_out_of}
use Rattle.stipeharbor.specs.Fragments.{CloseOut, close_out_of}

pub tessellate_out_one : (verbs : List ℕ) (coords : List Float) (options : Options) (dashes : List Float) (l : Lists) (answer : List ℕ) (a b : Tessellated)
    → a ≡ tessellate_out_of verbs coords options dashes l answer → b ≡ tessellate_out_of verbs coords options dashes l answer → a ≡ b
tessellate_out_one verbs coords options dashes l answer a b h k = h ∙ sym k

pub read_out_one : (text verbs : List ℕ) (coords : List Float) (answer : List ℕ) (a b : ReadOut) → ReadsOut text verbs coords answer a → ReadsOut text verbs coords answer b → a ≡ b
read_out_one text verbs coords answer a b h k =
    h.passed ∙ ap (λ (o : reader.Outcome). read_out_of o answer) (same_outcome text verbs coords h.outcome k.outcome h.reads k.reads) ∙ sym k.passed

pub root_out_one : (x : Float) (value : List Float) (a b : FloatsOut) → RootsOut x value a → RootsOut x value b → a ≡ b
root_out_one x value a b h k =
    h.passed ∙ ap (λ (o : Answer). root_out_of o value) (one_answer x h.answer k.answer h.answers k.answers) ∙ sym k.passed

pub normal_out_one : (x1 y1 x2 y2 : Float) (normal : List Float) (a b : FloatsOut) → a ≡ normal_out_of x1 y1 x2 y2 normal → b ≡ normal_out_of x1 y1 x2 y2 normal → a ≡ b
normal_out_one x1 y1 x2 y2 normal a b h k = h ∙ sym k

pub stl_write_out_one : (v : List Float) (t bytes answer : List ℕ) (a b : StlWritten) → a ≡ stl_write_out_of v t bytes answer → b ≡ stl_write_out_of v t bytes answer → a ≡ b
stl_write_out_one v t bytes answer a b h k = h ∙ sym k

pub stl_read_out_one : (bytes : List ℕ) (corners : List Float) (answer : List ℕ) (a b : StlCorners) → a ≡ stl_read_out_of bytes corners answer → b ≡ stl_read_out_of bytes corners answer → a ≡ b
stl_read_out_one bytes corners answer a b h k = h ∙ sym k

pub widen_out_one : (numbers wide answer : List ℕ) (a b : ListOut) → a ≡ widen_out_of numbers wide answer → b ≡ widen_out_of numbers wide answer → a ≡ b
widen_out_one numbers wide answer a b h k = h ∙ sym k

pub narrow_out_one : (numbers narrowed answer : List ℕ) (a b : ListOut) → a ≡ narrow_out_of numbers narrowed answer → b ≡ narrow_out_of numbers narrowed answer → a ≡ b
narrow_out_one numbers narrowed answer a b h k = h ∙ sym k

pub check_out_one : (v : Verdict) (answer : List ℕ) (a b : CheckOut) → a ≡ check_out_of v answer → b ≡ check_out_of v answer → a ≡ b
check_out_one v answer a b h k = h ∙ sym k

pub radio_start_one : (state : List ℕ) (a b : Started) → a ≡ start_of state → b ≡ start_of state → a ≡ b
radio_start_one state a b h k = h ∙ sym k

pub radio_take_one : (state fragment verbs : List ℕ) (coords : List Float) (a b : Taken) → a ≡ take_of state fragment verbs coords → b ≡ take_of state fragment verbs coords → a ≡ b
radio_take_one state fragment verbs coords a b h k = h ∙ sym k

pub radio_close_one : (state verbs : List ℕ) (coords : List Float) (answer : List ℕ) (a b : CloseOut) → a ≡ close_out_of state verbs coords answer → b ≡ close_out_of state verbs coords answer → a ≡ b
radio_close_one state verbs coords answer a b h k = h ∙ sym k
