-- What the private writers are lent: triangles that are all fine, and room. Assumes nothing.
use Rattle.std.specs.Prelude.{ℕ, ◌/◌, ◌≤◌, ◌<◌, Bool, ◌&&◌, List, T, Float, length}
use Rattle.stl.specs.Corner.{finite_corner}
use Rattle.stl.specs.File.{size_of}
use Rattle.stl.specs.Write.{fine_triangle, count_limit}
use Rattle.stl.specs.declared.facet.Facet.{Facet}

unfoldable pub finite_facet : Facet → Bool
finite_facet f = (finite_corner f.a && finite_corner f.b) && finite_corner f.c

abbrev pub AllFine : List Float → List ℕ → Type 0
AllFine v t = (k : ℕ) → k < length t / 3 → T (fine_triangle v t k)

pub record PutsFile (b : List ℕ) (v : List Float) (t : List ℕ) : Type 0 where
  pub counted : length t / 3 ≤ count_limit
  pub room : size_of (length t / 3) ≤ length b
  pub fine : AllFine v t
