-- What a fine triangle has: vertices that are there, and finite corners. Assumes nothing.
use Prim.Native.Nat.{ℕ, ◌+◌, ◌*◌, ◌/◌, ◌<◌}
use mathlib.Core.Bool.{Bool, true, false, ◌&&◌}
use mathlib.Core.List.{List}
use lib.Dec.{T, ltb, ltb→lt}
use lib.Ieee.{Float}
use lib.ListN.{length, get_or}
use Rattle.stl.specs.Corner.{finite_corner}
use Rattle.stl.specs.Write.{corner_of, fine_vertex, fine_triangle, facet_of}
use Rattle.stl.specs.declared.facet.Facet.{Facet}
use Rattle.stl.proofs.Corner.{both}
use Rattle.stl_write.specs.Fine.{finite_facet}

and : (a b : Bool) → T a → T b → T (a && b)
and true b h g = g
and false b h g = absurd h

module _ (v : List Float) (t : List ℕ) (k : ℕ) (h : T (fine_triangle v t k)) where
  vertices : T (fine_vertex v (get_or t (3 * k) 0)) × T (fine_vertex v (get_or t (3 * k + 1) 0)) × T (fine_vertex v (get_or t (3 * k + 2) 0))
  unfolding fine_triangle
  vertices =
      let i = fine_vertex v (get_or t (3 * k) 0) in
      let j = fine_vertex v (get_or t (3 * k + 1) 0) in
      let a = both (i && j) (fine_vertex v (get_or t (3 * k + 2) 0)) h in
      let b = both i j a.0 in
      (b.0, b.1, a.1)

  parts : (i : ℕ) → T (fine_vertex v i) → (i < length v / 5) × T (finite_corner (corner_of v i))
  unfolding fine_vertex
  parts i g = let a = both (ltb i (length v / 5)) (finite_corner (corner_of v i)) g in (ltb→lt i (length v / 5) a.0, a.1)

  pub there : (get_or t (3 * k) 0 < length v / 5) × (get_or t (3 * k + 1) 0 < length v / 5) × (get_or t (3 * k + 2) 0 < length v / 5)
  there = ((parts (get_or t (3 * k) 0) vertices.0).0, (parts (get_or t (3 * k + 1) 0) vertices.1).0, (parts (get_or t (3 * k + 2) 0) vertices.2).0)

  pub facet_finite : T (finite_facet (facet_of v t k))
  unfolding finite_facet facet_of
  facet_finite =
      let a = (parts (get_or t (3 * k) 0) vertices.0).1 in
      let b = (parts (get_or t (3 * k + 1) 0) vertices.1).1 in
      let c = (parts (get_or t (3 * k + 2) 0) vertices.2).1 in
      and (finite_corner (corner_of v (get_or t (3 * k) 0)) && finite_corner (corner_of v (get_or t (3 * k + 1) 0))) (finite_corner (corner_of v (get_or t (3 * k + 2) 0)))
      (and (finite_corner (corner_of v (get_or t (3 * k) 0))) (finite_corner (corner_of v (get_or t (3 * k + 1) 0))) a b) c

-- a facet's three corners
pub corners_finite : (f : Facet) → T (finite_facet f) → T (finite_corner f.a) × T (finite_corner f.b) × T (finite_corner f.c)
unfolding finite_facet
corners_finite f h =
    let a = both (finite_corner f.a && finite_corner f.b) (finite_corner f.c) h in
    let b = both (finite_corner f.a) (finite_corner f.b) a.0 in
    (b.0, b.1, a.1)
