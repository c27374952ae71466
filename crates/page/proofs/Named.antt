-- Five digits hold each number that the program prints of a triangle: it is a vertex's, of 1,024 at most. The plan: a mesh names its own vertices (mesh's `all_own`),
-- and where there is none the list is as it was, all zeros. Assumes nothing.
use Prim.Native.Nat.{ℕ, zero, suc, ◌+◌, ◌/◌, ◌≤◌, ◌<◌}
use mathlib.Core.Path.{◌≡◌, refl}
use mathlib.Core.Bool.{Bool, true, false, cond, false≢true}
use mathlib.Core.List.{List, [], ◌∷◌}
use native.Mathlib.Omega.{arith}
use lib.Dec.{ltb, eqb}
use lib.Ieee.{Float}
use lib.ListN.{length, get_or, replicate}
use Rattle.endpoint.specs.declared.Endpoint.{Endpoint}
use Rattle.lists.specs.Over.{over, flat}
use Rattle.options.specs.Options.{stroke_of}
use Rattle.options.specs.declared.Options.{Options}
use Rattle.options.specs.declared.Stroke.{Stroke}
use Rattle.cuts.specs.Checked.{cut_checked_of}
use Rattle.path.specs.Runs.{Run}
use Rattle.pieces.specs.Piece.{Lists, flat_t}
use Rattle.triangles.specs.Facts.{AllOwn}
use Rattle.triangles.specs.Tri.{Tri}
use Rattle.runs.specs.Runs.{path_runs, mesh_count, mesh_triangles}
use Rattle.mesh.specs.Answer.{is_mesh, with_counts, with_place}
use Rattle.mesh.specs.Mesh.{Outcome, refused, drawn, room_for, accepted_of, once_accepted, stroked_of, outcome_of, vertex_places}
use Rattle.mesh.proofs.Numbers.{all_own}

-- each number is below k
abbrev AllBelow : ℕ → List ℕ → Type 0
AllBelow k [] = Unit
AllBelow k (x ∷ xs) = (x < k) × AllBelow k xs

pub below_zeros : (k n : ℕ) → AllBelow (suc k) (replicate n 0)
below_zeros k zero = tt
below_zeros k (suc n) = (omega arith, below_zeros k n)

pub below_at : (k : ℕ) (xs : List ℕ) → AllBelow (suc k) xs → (i : ℕ) → get_or xs i 0 < suc k
below_at k [] a i = omega arith
below_at k (x ∷ xs) a zero = a.0
below_at k (x ∷ xs) a (suc i) = below_at k xs a.1 i

below_over : (k : ℕ) (vs xs : List ℕ) → AllBelow k vs → AllBelow k xs → AllBelow k (over vs xs)
unfolding over
below_over k [] xs a b = b
below_over k (v ∷ vs) [] a b = tt
below_over k (v ∷ vs) (x ∷ xs) a b = (a.0, below_over k vs xs a.1 b.1)

below_own : (k lo hi : ℕ) → hi ≤ k → (ts : List Tri) → AllOwn lo hi ts → AllBelow k (flat_t ts)
unfolding flat
below_own k lo hi h [] o = tt
below_own k lo hi h (t ∷ ts) o = (omega (arith, o.0.in_a), (omega (arith, o.0.in_b), (omega (arith, o.0.in_c), below_own k lo hi h ts o.1)))

module _ (k : ℕ) (l : Lists) (zeros : AllBelow k l.triangles) where
  -- what a call left, where it counts no more than k vertices
  abbrev Named : Outcome → Type 0
  Named o = o.answer.vertices ≤ k → AllBelow k o.lists.triangles

  mesh_counts_lem : (o : Stroke) (rs : List (Run Endpoint)) → is_mesh (room_for l o rs) ≡ true → (room_for l o rs).vertices ≡ mesh_count o rs
  mesh_counts_lem o rs = by (length (mesh_triangles o 0 rs)) (ltb (vertex_places l) (mesh_count o rs)) (ltb (length l.triangles / 3) (length (mesh_triangles o 0 rs)))
    where
      by : (m : ℕ) (few fewer : Bool) → let a = cond few (with_counts 6 (mesh_count o rs) m) (cond fewer (with_counts 7 (mesh_count o rs) m) (with_counts 0 (mesh_count o rs) m)) in
          is_mesh a ≡ true → a.vertices ≡ mesh_count o rs
      by m true fewer e = absurd (false≢true e)
      by m false true e = absurd (false≢true e)
      by m false false e = refl

  accepted_named : (o : Stroke) (rs : List (Run Endpoint)) → Named (accepted_of l o rs)
  unfolding accepted_of
  accepted_named o rs = by (is_mesh (room_for l o rs)) refl
    where
      by : (b : Bool) → is_mesh (room_for l o rs) ≡ b → Named (cond b (drawn l o rs) (refused l (room_for l o rs)))
      by true e h = below_over k (flat_t (mesh_triangles o 0 rs)) l.triangles (below_own k 0 (0 + mesh_count o rs) (omega (arith, mesh_counts_lem o rs e)) (mesh_triangles o 0 rs) (all_own o 0 rs)) zeros
      by false e h = zeros

  once_named : (number place : ℕ) (next : Outcome) → Named next → Named (once_accepted l number place next)
  once_named number place next h = by (eqb number 0)
    where
      by : (b : Bool) → Named (cond b next (refused l (with_place number place)))
      by true = h
      by false = λ g. zeros

  pub mesh_named : (vs : List ℕ) (cs : List Float) (o : Options) (ds : List Float) → Named (outcome_of vs cs o ds l)
  unfolding outcome_of stroked_of
  mesh_named vs cs o ds =
      let a = stroke_of o ds in
      let p = a.stroke in
      let b = cut_checked_of p.near ds p.offset vs cs in
      let rs = path_runs p ds vs cs in
      once_named a.number a.place (stroked_of l vs cs p ds) (once_named b.number b.place (accepted_of l p rs) (accepted_named p rs))
