-- Any two outcomes that a public call's contract allows are the same: number, place, counts and values, the case of the enum that stands for them, and every
-- lent list whole. Each statement takes what the contract ensures of two outcomes. Assumes nothing.
use Prim.Native.Nat.{ℕ}
use mathlib.Core.Path.{◌≡◌, sym, ap, ◌∙◌}
use mathlib.Core.List.{List, [], ◌∷◌, ◌++◌}
use lib.Ieee.{Float}
use lib.ListN.{length}
use Rattle.std.specs.Prelude.{Option, Result}
use Rattle.root.specs.Answer.{Answers, answer_of}
use Rattle.root.proofs.Laws.{one_answer, one_case}
use Rattle.plane.specs.Normal.{normal_answer_of, compute_normal_of}
use Rattle.plane.specs.declared.vector.Point.{Point}
use Rattle.endpoint.specs.declared.EndpointData.{EndpointData}
use Rattle.window.specs.Answer.{get_answer_of, got_of, change_answer_of}
use Rattle.window.specs.Window.{items, last_three, ReplacesLast}
use Rattle.window.specs.declared.buffer.PointBuffer.{PointBuffer}
use Rattle.window.specs.declared.buffer.Replaced.{Replaced}
use Rattle.window.proofs.Laws.{one_got, one_replaced}
use Rattle.options.specs.Options.{stroke_of, stroke_answer_of}
use Rattle.path.specs.Path.{checked_of, check_answer_of}
use Rattle.cuts.specs.Checked.{cut_checked_of}
use Rattle.refusals.specs.declared.Refusal.{Refusal}
use Rattle.options.specs.declared.Options.{Options}
use Rattle.options.specs.declared.Stroke.{Stroke}
use Rattle.pieces.specs.Piece.{Lists}
use Rattle.mesh.specs.Answer.{mesh_answer_of}
use Rattle.mesh.specs.Mesh.{Outcome, answered, outcome_of}
use Rattle.mesh.specs.declared.answer.MeshSize.{MeshSize}
use Rattle.mesh.specs.declared.answer.MeshError.{MeshError}
use Rattle.reader.specs.Answer.{read_answer_of}
use Rattle.reader.specs.Outcome as reader
use Rattle.reader.specs.Reads.{Reads}
use Rattle.reader.specs.declared.answer.PathSize.{PathSize}
use Rattle.reader.specs.declared.answer.ReadError.{ReadError}
use Rattle.reader.proofs.Meets.{same_outcome}
use Rattle.widths.specs.Answer.{listed_answer_of}
use Rattle.widths.specs.Widths as widths
use Rattle.widths.specs.declared.answer.WidthError.{WidthError}
use Rattle.pins.proofs.Cases.{one_direction, one_stroked, one_checked, one_meshed, one_reading, one_listed}

-- two answers have the same numbers and values, and are the same case
abbrev pub Same : {A B : Type 0} → (A → B) → A → A → Type 0
Same numbers r s = (numbers r ≡ numbers s) × (r ≡ s)

-- ---- mesh::tessellate: the answer and the three lists
pub mesh_one : (verbs : List ℕ) (coords : List Float) (options : Options) (ds : List Float) (l : Lists) (r s : Result MeshSize MeshError) (v1 v2 : List Float) (s1 s2 t1 t2 : List ℕ)
    → answered r v1 s1 t1 ≡ outcome_of verbs coords options ds l
    → answered s v2 s2 t2 ≡ outcome_of verbs coords options ds l
    → Same mesh_answer_of r s × (v1 ≡ v2) × (s1 ≡ s2) × (t1 ≡ t2)
mesh_one verbs coords options ds l r s v1 v2 s1 s2 t1 t2 h k =
    let e = h ∙ sym k in
    let n = ap (λ (o : Outcome). o.answer) e in
    ((n, one_meshed r s n), ap (λ (o : Outcome). o.lists.vertices) e, ap (λ (o : Outcome). o.lists.sources) e, ap (λ (o : Outcome). o.lists.triangles) e)

-- ---- reader::read: the answer and both lists
pub read_one : (text verbs : List ℕ) (coords : List Float) (r s : Result PathSize ReadError) (v1 v2 : List ℕ) (c1 c2 : List Float)
    → Reads text verbs coords (record { answer = read_answer_of r; verbs = v1; coords = c1 })
    → Reads text verbs coords (record { answer = read_answer_of s; verbs = v2; coords = c2 })
    → Same read_answer_of r s × (v1 ≡ v2) × (c1 ≡ c2)
read_one text verbs coords r s v1 v2 c1 c2 h k =
    let e = same_outcome text verbs coords _ _ h k in
    let n = ap (λ (o : reader.Outcome). o.answer) e in
    ((n, one_reading r s n), ap (λ (o : reader.Outcome). o.verbs) e, ap (λ (o : reader.Outcome). o.coords) e)

-- ---- root::root
pub root_one : (x : Float) (r s : Option Float) → Answers x (answer_of r) → Answers x (answer_of s) → Same answer_of r s
root_one x r s h k = let n = one_answer x (answer_of r) (answer_of s) h k in (n, one_case r s n)

-- ---- plane::normal::compute_normal
pub normal_one : (v1 v2 : Point) (r s : Option Point) → normal_answer_of r ≡ compute_normal_of v1 v2 → normal_answer_of s ≡ compute_normal_of v1 v2 → Same normal_answer_of r s
normal_one v1 v2 r s h k = let n = h ∙ sym k in (n, one_direction r s n)

-- ---- options::stroke_of, path::check_path and cuts::check_cut_path, parts of the mesh call
pub stroke_one : (o : Options) (ds : List Float) (r s : Result Stroke Refusal) → stroke_answer_of r ≡ stroke_of o ds → stroke_answer_of s ≡ stroke_of o ds → Same stroke_answer_of r s
stroke_one o ds r s h k = let n = h ∙ sym k in (n, one_stroked r s n)

pub check_one : (verbs : List ℕ) (coords : List Float) (r s : Result Unit Refusal) → check_answer_of r ≡ checked_of verbs coords → check_answer_of s ≡ checked_of verbs coords → Same check_answer_of r s
check_one verbs coords r s h k = let n = h ∙ sym k in (n, one_checked r s n)

pub cut_check_one : (limit : Float) (ds : List Float) (offset : Float) (verbs : List ℕ) (coords : List Float) (r s : Result Unit Refusal)
    → check_answer_of r ≡ cut_checked_of limit ds offset verbs coords → check_answer_of s ≡ cut_checked_of limit ds offset verbs coords → Same check_answer_of r s
cut_check_one limit ds offset verbs coords r s h k = let n = h ∙ sym k in (n, one_checked r s n)

-- ---- widths::widen and widths::narrow: the answer and the list
list_one : (o : widths.Outcome) (r s : Result ℕ WidthError) (x y : List ℕ) → record { answer = listed_answer_of r; list = x } ≡ o → record { answer = listed_answer_of s; list = y } ≡ o → Same listed_answer_of r s × (x ≡ y)
list_one o r s x y h k =
    let e = h ∙ sym k in
    let n = ap (λ (p : widths.Outcome). p.answer) e in
    ((n, one_listed r s n), ap (λ (p : widths.Outcome). p.list) e)

pub widen_one : (xs ys : List ℕ) (r s : Result ℕ WidthError) (x y : List ℕ) → record { answer = listed_answer_of r; list = x } ≡ widths.widen_of xs ys → record { answer = listed_answer_of s; list = y } ≡ widths.widen_of xs ys
    → Same listed_answer_of r s × (x ≡ y)
widen_one xs ys = list_one (widths.widen_of xs ys)

pub narrow_one : (xs ys : List ℕ) (r s : Result ℕ WidthError) (x y : List ℕ) → record { answer = listed_answer_of r; list = x } ≡ widths.narrow_of xs ys → record { answer = listed_answer_of s; list = y } ≡ widths.narrow_of xs ys
    → Same listed_answer_of r s × (x ≡ y)
narrow_one xs ys = list_one (widths.narrow_of xs ys)

-- ---- window: by value and lent alike. Two windows that hold the same endpoints answer every later call alike; which slots hold them is left open.
pub get_one : (w : PointBuffer) (i : ℕ) (g h : Option EndpointData) → get_answer_of g ≡ got_of (items w) i → get_answer_of h ≡ got_of (items w) i → Same get_answer_of g h
get_one w i g h p q = let n = p ∙ sym q in (n, one_got g h n)

pub count_one : (w : PointBuffer) (n m : ℕ) → n ≡ length (items w) → m ≡ length (items w) → n ≡ m
count_one w n m p q = p ∙ sym q

pub push_one : (w : PointBuffer) (e : EndpointData) (r s : PointBuffer) → items r ≡ last_three (items w ++ (e ∷ [])) → items s ≡ last_three (items w ++ (e ∷ [])) → items r ≡ items s
push_one w e r s p q = p ∙ sym q

pub clear_one : (r s : PointBuffer) → items r ≡ [] → items s ≡ [] → items r ≡ items s
clear_one r s p q = p ∙ sym q

pub replace_one : (w : PointBuffer) (e : EndpointData) (r s : Replaced) → ReplacesLast w e r → ReplacesLast w e s → Same change_answer_of r.change s.change × (items r.window ≡ items s.window)
replace_one w e r s p q = let o = one_replaced w e r s p q in ((p.answer ∙ sym q.answer, o.0), o.1)

-- what a later call answers depends on what is held alone
pub same_reads : (r s : PointBuffer) → items r ≡ items s → (i : ℕ) → got_of (items r) i ≡ got_of (items s) i
same_reads r s e i = ap (λ (xs : List EndpointData). got_of xs i) e
