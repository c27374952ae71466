-- The numbers of an answer tell its case: two cases of an enum that stand for the same numbers and values are the same, since each can be read back
-- from them. Root's and the window's are in their own crates (`one_case`, `one_got`, `one_change`). Assumes nothing.
use mathlib.Core.Path.{◌≡◌, refl, sym, ap, ◌∙◌}
use Prim.Native.Nat.{ℕ}
use mathlib.Core.Bool.{cond}
use lib.Dec.{eqb}
use Rattle.std.specs.Prelude.{Option, Some, None, Result, Ok, Err}
use Rattle.refusals.specs.Numbers.{number_of, accepted, out_of_range, too_many_verbs, misplaced_verb, bad_coordinate, vertex_room, long_text, malformed_text, large_number, triangle_room, list_room}
use Rattle.plane.specs.Normal.{normal_answer_of}
use Rattle.plane.specs.Vector.{point}
use Rattle.plane.specs.declared.vector.Point.{Point}
use Rattle.plane.specs.declared.normal.NormalAnswer.{NormalAnswer}
use Rattle.options.specs.Options.{stroke_answer_of}
use Rattle.path.specs.Path.{check_answer_of}
use Rattle.refusals.specs.declared.Refusal.{Refusal}
use Rattle.refusals.specs.declared.Refusal.TheVariants as refusal
use Rattle.refusals.specs.declared.Verdict.{Verdict}
use Rattle.options.specs.declared.StrokeAnswer.{StrokeAnswer}
use Rattle.options.specs.declared.Stroke.{Stroke}
use Rattle.mesh.specs.Answer.{mesh_answer_of}
use Rattle.mesh.specs.declared.answer.MeshAnswer.{MeshAnswer}
use Rattle.mesh.specs.declared.answer.MeshSize.{MeshSize}
use Rattle.mesh.specs.declared.answer.MeshError.{MeshError}
use Rattle.mesh.specs.declared.answer.MeshError.TheVariants as mesh
use Rattle.reader.specs.Answer.{read_answer_of}
use Rattle.reader.specs.declared.answer.ReadAnswer.{ReadAnswer}
use Rattle.reader.specs.declared.answer.PathSize.{PathSize}
use Rattle.reader.specs.declared.answer.ReadError.{ReadError}
use Rattle.reader.specs.declared.answer.ReadError.TheVariants as read
use Rattle.widths.specs.Answer.{listed_answer_of}
use Rattle.widths.specs.declared.answer.WidthError.{WidthError}
use Rattle.widths.specs.declared.answer.WidthError.TheVariants as list
use Rattle.widths.specs.declared.answer.ListedAnswer.{ListedAnswer}

same_case : {A B : Type 0} (numbers : A → B) (back : B → A) → ((r : A) → back (numbers r) ≡ r) → (r s : A) → numbers r ≡ numbers s → r ≡ s
same_case numbers back is r s e = sym (is r) ∙ ap back e ∙ is s

-- ---- compute_normal
direction : NormalAnswer → Option Point
direction a = cond (eqb a.number (number_of accepted)) (Some (point a.x a.y)) None

direction_is : (r : Option Point) → direction (normal_answer_of r) ≡ r
unfolding direction
direction_is (Some n) = refl
direction_is None = refl

pub one_direction : (r s : Option Point) → normal_answer_of r ≡ normal_answer_of s → r ≡ s
one_direction = same_case normal_answer_of direction direction_is

-- ---- refusals 1 to 4, and 26
refusal_of : ℕ → ℕ → Refusal
refusal_of number place =
    cond (eqb number (number_of out_of_range)) refusal.OutOfRange
    (cond (eqb number (number_of too_many_verbs)) refusal.TooManyVerbs
    (cond (eqb number (number_of misplaced_verb)) (refusal.Verb place)
    (cond (eqb number (number_of bad_coordinate)) (refusal.Coordinate place) refusal.TooManyCuts)))

-- ---- stroke_of
stroked : StrokeAnswer → Result Stroke Refusal
stroked a = cond (eqb a.number (number_of accepted)) (Ok a.stroke) (Err (refusal_of a.number a.place))

stroked_is : (r : Result Stroke Refusal) → stroked (stroke_answer_of r) ≡ r
unfolding stroked refusal_of
stroked_is (Ok s) = refl
stroked_is (Err refusal.OutOfRange) = refl
stroked_is (Err refusal.TooManyVerbs) = refl
stroked_is (Err (refusal.Verb i)) = refl
stroked_is (Err (refusal.Coordinate i)) = refl
stroked_is (Err refusal.TooManyCuts) = refl

pub one_stroked : (r s : Result Stroke Refusal) → stroke_answer_of r ≡ stroke_answer_of s → r ≡ s
one_stroked = same_case stroke_answer_of stroked stroked_is

-- ---- check_path
checked : Verdict → Result Unit Refusal
checked a = cond (eqb a.number (number_of accepted)) (Ok tt) (Err (refusal_of a.number a.place))

checked_is : (r : Result Unit Refusal) → checked (check_answer_of r) ≡ r
unfolding checked refusal_of
checked_is (Ok tt) = refl
checked_is (Err refusal.OutOfRange) = refl
checked_is (Err refusal.TooManyVerbs) = refl
checked_is (Err (refusal.Verb i)) = refl
checked_is (Err (refusal.Coordinate i)) = refl
checked_is (Err refusal.TooManyCuts) = refl

pub one_checked : (r s : Result Unit Refusal) → check_answer_of r ≡ check_answer_of s → r ≡ s
one_checked = same_case check_answer_of checked checked_is

-- ---- tessellate
meshed : MeshAnswer → Result MeshSize MeshError
meshed a =
    cond (eqb a.number (number_of accepted)) (Ok (record { vertices = a.vertices; triangles = a.triangles }))
    (cond (eqb a.number (number_of vertex_room)) (Err (mesh.VertexRoom (record { vertices = a.vertices; triangles = a.triangles })))
    (cond (eqb a.number (number_of triangle_room)) (Err (mesh.TriangleRoom (record { vertices = a.vertices; triangles = a.triangles }))) (Err (mesh.Refused (refusal_of a.number a.place)))))

meshed_is : (r : Result MeshSize MeshError) → meshed (mesh_answer_of r) ≡ r
unfolding meshed refusal_of
meshed_is (Ok size) = refl
meshed_is (Err (mesh.Refused refusal.OutOfRange)) = refl
meshed_is (Err (mesh.Refused refusal.TooManyVerbs)) = refl
meshed_is (Err (mesh.Refused (refusal.Verb i))) = refl
meshed_is (Err (mesh.Refused (refusal.Coordinate i))) = refl
meshed_is (Err (mesh.Refused refusal.TooManyCuts)) = refl
meshed_is (Err (mesh.VertexRoom size)) = refl
meshed_is (Err (mesh.TriangleRoom size)) = refl

pub one_meshed : (r s : Result MeshSize MeshError) → mesh_answer_of r ≡ mesh_answer_of s → r ≡ s
one_meshed = same_case mesh_answer_of meshed meshed_is

-- ---- read
reading : ReadAnswer → Result PathSize ReadError
reading a =
    cond (eqb a.number (number_of accepted)) (Ok (record { verbs = a.verbs; coords = a.coords }))
    (Err (cond (eqb a.number (number_of long_text)) read.TooLong
    (cond (eqb a.number (number_of malformed_text)) (read.OutOfForm a.place)
    (cond (eqb a.number (number_of large_number)) (read.TooLarge a.place) read.NoRoom))))

reading_is : (r : Result PathSize ReadError) → reading (read_answer_of r) ≡ r
unfolding reading
reading_is (Ok size) = refl
reading_is (Err read.TooLong) = refl
reading_is (Err (read.OutOfForm i)) = refl
reading_is (Err (read.TooLarge i)) = refl
reading_is (Err read.NoRoom) = refl

pub one_reading : (r s : Result PathSize ReadError) → read_answer_of r ≡ read_answer_of s → r ≡ s
one_reading = same_case read_answer_of reading reading_is

-- ---- widen and narrow
listed : ListedAnswer → Result ℕ WidthError
listed a = cond (eqb a.number (number_of accepted)) (Ok a.count) (Err (cond (eqb a.number (number_of list_room)) list.ListRoom (list.WideNumber a.place)))

listed_is : (r : Result ℕ WidthError) → listed (listed_answer_of r) ≡ r
unfolding listed
listed_is (Ok n) = refl
listed_is (Err list.ListRoom) = refl
listed_is (Err (list.WideNumber i)) = refl

pub one_listed : (r s : Result ℕ WidthError) → listed_answer_of r ≡ listed_answer_of s → r ≡ s
one_listed = same_case listed_answer_of listed listed_is
