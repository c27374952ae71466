-- Runs one behind the other: their vertices, triangles and pieces; how many they are, wherever the numbers begin; and the counts' bounds (`Bounded`). Assumes
-- nothing.
use Prim.Native.Nat.{ℕ, ◌+◌, ◌*◌, ◌≤◌}
use mathlib.Core.Path.{◌≡◌, refl}
use mathlib.Core.List.{List, [], ◌∷◌, ◌++◌, append_assoc}
use native.Mathlib.Omega.{arith}
use lib.ListN.{length, length-append}
use Rattle.endpoint.specs.declared.Endpoint.{Endpoint}
use Rattle.pieces.specs.Piece.{joined, behind, next_vertex}
use Rattle.pieces.specs.declared.Place.{Place}
use Rattle.options.specs.Options.{level_of}
use Rattle.options.specs.declared.Stroke.{Stroke}
use Rattle.path.specs.Limits.{most_to_point}
use Rattle.path.specs.Runs.{Run, points_of}
use Rattle.run.specs.Run.{shape_count}
use Rattle.run.proofs.Facts.{run_few, run_anywhere}
use Rattle.run.proofs.Whole.{length_shape}
use Rattle.runs.specs.Runs.{Tally, drawn_of, mesh_vertices, mesh_count, mesh_triangles, mesh_piece, mesh_counts}

module _ (o : Stroke) where
  pub vertices_append : (xs ys : List (Run Endpoint)) → mesh_vertices o (xs ++ ys) ≡ mesh_vertices o xs ++ mesh_vertices o ys
  unfolding mesh_vertices
  vertices_append [] ys = refl
  vertices_append (x ∷ xs) ys = rw (vertices_append xs ys, append_assoc)

  pub triangles_append : (base : ℕ) (xs ys : List (Run Endpoint)) → mesh_triangles o base (xs ++ ys) ≡ mesh_triangles o base xs ++ mesh_triangles o (base + mesh_count o xs) ys
  unfolding mesh_triangles mesh_count
  triangles_append base [] ys = let n : base + 0 ≡ base = omega arith in rw n
  triangles_append base (x ∷ xs) ys =
      let n : base + (shape_count (drawn_of o x) + mesh_count o xs) ≡ base + shape_count (drawn_of o x) + mesh_count o xs = omega arith in
      rw (n, triangles_append (base + shape_count (drawn_of o x)) xs ys, append_assoc)

  pub length_vertices : (rs : List (Run Endpoint)) → length (mesh_vertices o rs) ≡ mesh_count o rs
  unfolding mesh_vertices mesh_count
  length_vertices [] = refl
  length_vertices (r ∷ rs) = rw (length-append, length_shape, length_vertices rs)

  -- pieces one behind the other
  pub meshes_append : (k : Place) (xs ys : List (Run Endpoint)) → mesh_piece o k (xs ++ ys) ≡ joined (mesh_piece o k xs) (mesh_piece o (behind k (mesh_piece o k xs)) ys)
  meshes_append k xs ys =
      let n : k.base.0 + (k.vertices + mesh_count o xs) ≡ k.base.0 + k.vertices + mesh_count o xs = omega arith in
      rw (vertices_append xs ys, triangles_append (next_vertex k) xs ys, length_vertices xs, n)

  -- how many triangles there are does not hang on the number that the vertices begin with
  triangles_anywhere : (base : ℕ) (rs : List (Run Endpoint)) → length (mesh_triangles o base rs) ≡ length (mesh_triangles o 0 rs)
  unfolding mesh_triangles
  triangles_anywhere base [] = refl
  triangles_anywhere base (r ∷ rs) =
      let s = drawn_of o r in
      simp length-append (omega (arith, run_anywhere o r.closed base r.points, triangles_anywhere (base + shape_count s) rs, triangles_anywhere (0 + shape_count s) rs))

-- ---- bounds, in one place: so many vertices to a point by the arcs' levels, no more triangles than vertices
pub record Bounded (level n : ℕ) (c : Tally) : Type 0 where
  pub vertices : c.vertices ≤ most_to_point level * n
  pub triangles : c.triangles ≤ c.vertices

both_few : (m a b v w : ℕ) → v ≤ m * a → w ≤ m * b → v + w ≤ m * (a + b)
both_few m a b v w h g = omega arith

pub runs_bounded : (o : Stroke) (rs : List (Run Endpoint)) → Bounded (level_of o) (length (points_of rs)) (mesh_counts o rs)
unfolding mesh_count mesh_triangles points_of
runs_bounded o [] = record { vertices = omega arith; triangles = omega arith }
runs_bounded o (r ∷ rs) =
    let b = runs_bounded o rs in
    let w = run_few o r.closed 0 r.points in
    let base = 0 + shape_count (drawn_of o r) in
    record {
      vertices = simp length-append (both_few (most_to_point (level_of o)) (length r.points) (length (points_of rs)) (shape_count (drawn_of o r)) (mesh_count o rs) w.vertices b.vertices);
      triangles = simp length-append (omega (arith, b.triangles, w.triangles, triangles_anywhere o base rs));
    }

pub count_append : (o : Stroke) (xs ys : List (Run Endpoint)) → mesh_count o (xs ++ ys) ≡ mesh_count o xs + mesh_count o ys
unfolding mesh_count
count_append o [] ys = omega arith
count_append o (x ∷ xs) ys = omega (arith, count_append o xs ys)
