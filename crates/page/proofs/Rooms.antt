-- What an answer 0 counts is within what was lent. Assumes nothing.
use Prim.Native.Nat.{ℕ, ◌/◌, ◌≤◌}
use mathlib.Core.Path.{◌≡◌, refl, sym}
use mathlib.Core.Bool.{Bool, true, false, cond, ◌||◌, false≢true}
use mathlib.Core.List.{List}
use native.Mathlib.Omega.{arith}
use borrow.Author.Tests.{ltb-false, eq-eqb}
use lib.Dec.{ltb, eqb}
use lib.Ieee.{Float}
use lib.ListN.{length}
use Rattle.endpoint.specs.declared.Endpoint.{Endpoint}
use Rattle.options.specs.Options.{stroke_of}
use Rattle.cuts.specs.Checked.{cut_checked_of}
use Rattle.path.specs.Runs.{Run}
use Rattle.path.specs.Limits.{verb_limit}
use Rattle.options.specs.declared.Options.{Options}
use Rattle.options.specs.declared.Stroke.{Stroke}
use Rattle.runs.specs.Runs.{path_runs, mesh_count, mesh_triangles}
use Rattle.reader.specs.Outcome as reader
use Rattle.reader.specs.Reads.{Reads, too_long, out_of_form, too_large, no_room, path, verbs_in, coords_in}
use Rattle.pieces.specs.Piece.{Lists}
use Rattle.mesh.specs.Answer.{is_mesh, with_counts, with_place}
use Rattle.mesh.specs.Mesh.{Outcome, refused, vertex_places, drawn, room_for, accepted_of, once_accepted, stroked_of, outcome_of}
use Rattle.mesh.specs.declared.answer.MeshAnswer.{MeshAnswer}

-- ---- the mesh call
module _ (l : Lists) where
  abbrev pub Roomy : MeshAnswer → Type 0
  Roomy a = a.number ≡ 0 → (a.vertices ≤ vertex_places l) × (a.triangles ≤ length l.triangles / 3)

  room_roomy : (o : Stroke) (rs : List (Run Endpoint)) → Roomy (room_for l o rs)
  room_roomy o rs =
      let n = mesh_count o rs in
      let m = length (mesh_triangles o 0 rs) in
      by n m (ltb (vertex_places l) n) (ltb (length l.triangles / 3) m) (ltb-false _ _) (ltb-false _ _)
    where
      by : (n m : ℕ) (few fewer : Bool) → (few ≡ false → n ≤ vertex_places l) → (fewer ≡ false → m ≤ length l.triangles / 3)
          → Roomy (cond few (with_counts 6 n m) (cond fewer (with_counts 7 n m) (with_counts 0 n m)))
      by n m true fewer h g e = absurd (omega arith)
      by n m false true h g e = absurd (omega arith)
      by n m false false h g e = (h refl, g refl)

  accepted_roomy : (o : Stroke) (rs : List (Run Endpoint)) → Roomy (accepted_of l o rs).answer
  unfolding accepted_of
  accepted_roomy o rs = by (is_mesh (room_for l o rs))
    where
      by : (b : Bool) → Roomy (cond b (drawn l o rs) (refused l (room_for l o rs))).answer
      by true = room_roomy o rs
      by false = room_roomy o rs

  -- what is refused before is no 0
  once_roomy : (number place : ℕ) (next : Outcome) → Roomy next.answer → Roomy (once_accepted l number place next).answer
  once_roomy number place next h = by (eqb number 0) (eq-eqb number 0)
    where
      by : (b : Bool) → (number ≡ 0 → b ≡ true) → Roomy (cond b next (refused l (with_place number place))).answer
      by true k = h
      by false k = λ e. absurd (false≢true (k e))

  pub mesh_roomy : (vs : List ℕ) (cs : List Float) (o : Options) (ds : List Float) → Roomy (outcome_of vs cs o ds l).answer
  unfolding outcome_of stroked_of
  mesh_roomy vs cs o ds =
      let a = stroke_of o ds in
      let p = a.stroke in
      let b = cut_checked_of p.near ds p.offset vs cs in
      let rs = path_runs p ds vs cs in
      once_roomy a.number a.place (stroked_of l vs cs p ds) (once_roomy b.number b.place (accepted_of l p rs) (accepted_roomy p rs))

-- ---- the reader
pub read_roomy : (s v : List ℕ) (c : List Float) (o : reader.Outcome) → Reads s v c o
    → o.answer.number ≡ 0 → (o.answer.verbs ≤ length v) × (o.answer.coords ≤ length c)
read_roomy s v c o (too_long h) e = absurd (omega arith)
read_roomy s v c o (out_of_form h w) e = absurd (omega arith)
read_roomy s v c o (too_large t is f) e = absurd (omega arith)
read_roomy s v c o (no_room t is f q) e = absurd (omega arith)
read_roomy s v c o (path t is f q) e =
    by (ltb (length v) (length (verbs_in t))) (ltb (length c) (length (coords_in t))) (ltb verb_limit (length (verbs_in t))) (ltb-false _ _) (ltb-false _ _) q
  where
    by : {A B : Type 0} (few fewer over : Bool) → (few ≡ false → A) → (fewer ≡ false → B) → few || fewer || over ≡ false → A × B
    by true fewer over h g q = absurd (false≢true (sym q))
    by false true over h g q = absurd (false≢true (sym q))
    by false false over h g q = (h refl, g refl)
