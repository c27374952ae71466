-- What an exported call leaves: document 01's number, and every lent list whole. What the number stands for is written over the start of a lent list, as
-- far as it goes; the rest of that list, and a list that is too short for it, keep what they had. Assumes nothing.
use Rattle.std.specs.Prelude.{ℕ, ◌≡◌, List, [], ◌∷◌, Float}
use Rattle.lists.specs.Over.{over}
use Rattle.refusals.specs.declared.Verdict.{Verdict}
use Rattle.root.specs.Answer.{Answers}
use Rattle.root.specs.declared.Answer.{Answer}
use Rattle.plane.specs.Normal.{compute_normal_of}
use Rattle.plane.specs.Vector.{point}
use Rattle.options.specs.declared.Options.{Options}
use Rattle.pieces.specs.Piece.{Lists, lent}
use Rattle.mesh.specs.Mesh.{outcome_of}
use Rattle.reader.specs.Outcome as reader
use Rattle.reader.specs.Reads.{Reads}
use Rattle.stl.specs.Read.{read_of}
use Rattle.stl.specs.Write.{write_of}
use Rattle.widths.specs.Widths.{Outcome, widen_of, narrow_of}

-- ---- stipeharbor_tessellate
abbrev pub options_of : Float → Float → ℕ → ℕ → Float → ℕ → Float → Options
options_of width limit join cap merge detail offset =
    record { width = width; miter_limit = limit; line_join = join; cap = cap; merge_range = merge; detail = detail; offset = offset }

pub record Tessellated : Type 0 where
  pub number : ℕ
  pub answer : List ℕ
  pub lists : Lists

abbrev pub tessellated : ℕ → List ℕ → List Float → List ℕ → List ℕ → Tessellated
tessellated number answer v s t = record { number = number; answer = answer; lists = lent v s t }

-- the mesh call's outcome: "place", then "both counts"
unfoldable pub tessellate_out_of : List ℕ → List Float → Options → List Float → Lists → List ℕ → Tessellated
tessellate_out_of verbs coords options dashes l answer =
    let o = outcome_of verbs coords options dashes l in
    let a = o.answer in
    record { number = a.number; answer = over (a.place ∷ a.vertices ∷ a.triangles ∷ []) answer; lists = o.lists }

-- ---- stipeharbor_read
pub record ReadOut : Type 0 where
  pub number : ℕ
  pub answer : List ℕ
  pub verbs : List ℕ
  pub coords : List Float

-- of an outcome of the reader: "place", then "both counts (verbs and coordinates in the reader)"
unfoldable pub read_out_of : reader.Outcome → List ℕ → ReadOut
read_out_of o answer =
    let a = o.answer in
    record { number = a.number; answer = over (a.place ∷ a.verbs ∷ a.coords ∷ []) answer; verbs = o.verbs; coords = o.coords }

-- The reader allows one outcome, so there is one `out`: `read_out_one` of proofs/Unique.antt.
pub record ReadsOut (text verbs : List ℕ) (coords : List Float) (answer : List ℕ) (out : ReadOut) : Type 0 where
  pub outcome : reader.Outcome
  pub reads : Reads text verbs coords outcome
  pub passed : out ≡ read_out_of outcome answer

-- ---- stipeharbor_root and stipeharbor_compute_normal
pub record FloatsOut : Type 0 where
  pub number : ℕ
  pub floats : List Float

unfoldable pub root_out_of : Answer → List Float → FloatsOut
root_out_of a value = record { number = a.number; floats = over (a.value ∷ []) value }

-- There is one answer to x, so there is one `out`: `root_out_one` of proofs/Unique.antt.
pub record RootsOut (x : Float) (value : List Float) (out : FloatsOut) : Type 0 where
  pub answer : Answer
  pub answers : Answers x answer
  pub passed : out ≡ root_out_of answer value

unfoldable pub normal_out_of : Float → Float → Float → Float → List Float → FloatsOut
normal_out_of x1 y1 x2 y2 normal =
    let a = compute_normal_of (point x1 y1) (point x2 y2) in
    record { number = a.number; floats = over (a.x ∷ a.y ∷ []) normal }

-- ---- stipeharbor_stl_write and stipeharbor_stl_read: the place, then the count
pub record StlWritten : Type 0 where
  pub number : ℕ
  pub answer : List ℕ
  pub bytes : List ℕ

unfoldable pub stl_write_out_of : List Float → List ℕ → List ℕ → List ℕ → StlWritten
stl_write_out_of v t bytes answer =
    let o = write_of v t bytes in
    let a = o.answer in
    record { number = a.number; answer = over (a.place ∷ a.count ∷ []) answer; bytes = o.bytes }

pub record StlCorners : Type 0 where
  pub number : ℕ
  pub answer : List ℕ
  pub corners : List Float

unfoldable pub stl_read_out_of : List ℕ → List Float → List ℕ → StlCorners
stl_read_out_of bytes corners answer =
    let o = read_of bytes corners in
    let a = o.answer in
    record { number = a.number; answer = over (a.place ∷ a.count ∷ []) answer; corners = o.corners }

-- ---- stipeharbor_widen and stipeharbor_narrow: the place, then the count
pub record ListOut : Type 0 where
  pub number : ℕ
  pub answer : List ℕ
  pub list : List ℕ

unfoldable pub list_out_of : Outcome → List ℕ → ListOut
list_out_of o answer = let a = o.answer in record { number = a.number; answer = over (a.place ∷ a.count ∷ []) answer; list = o.list }

abbrev pub widen_out_of : List ℕ → List ℕ → List ℕ → ListOut
widen_out_of numbers wide answer = list_out_of (widen_of numbers wide) answer

abbrev pub narrow_out_of : List ℕ → List ℕ → List ℕ → ListOut
narrow_out_of numbers narrowed answer = list_out_of (narrow_of numbers narrowed) answer

-- ---- stipeharbor_check and stipeharbor_check_attached: the place
pub record CheckOut : Type 0 where
  pub number : ℕ
  pub answer : List ℕ

unfoldable pub check_out_of : Verdict → List ℕ → CheckOut
check_out_of v answer = record { number = v.number; answer = over (v.place ∷ []) answer }
