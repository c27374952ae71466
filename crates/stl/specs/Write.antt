-- Writing: the answer, and the lent byte list whole, of any vertices, any numbers and any list. Assumes nothing.
use Rattle.std.specs.Prelude.{ℕ, ◌+◌, ◌*◌, ◌/◌, Bool, cond, ◌&&◌, ◌||◌, List, ltb, Float, length, get_or}
use Rattle.std.specs.Float.{nan}
use Rattle.refusals.specs.Numbers.{number_of, file_room, bad_corner}
use Rattle.lists.specs.Over.{over}
use Rattle.plane.specs.Vector.{point}
use Rattle.plane.specs.declared.vector.Point.{Point}
use Rattle.stl.specs.Answer.{with_count, with_place}
use Rattle.stl.specs.Corner.{finite_corner}
use Rattle.stl.specs.Each.{each, first_bad}
use Rattle.stl.specs.File.{size_of, file_bytes}
use Rattle.stl.specs.declared.answer.StlAnswer.{StlAnswer}
use Rattle.stl.specs.declared.facet.Facet.{Facet}

-- five floats to a vertex, three numbers to a triangle; what is left over is no part of the mesh
module _ (v : List Float) where
  abbrev pub corner_of : ℕ → Point
  corner_of i = point (get_or v (5 * i) nan) (get_or v (5 * i + 1) nan)

  -- it is there, and finite
  unfoldable pub fine_vertex : ℕ → Bool
  fine_vertex i = ltb i (length v / 5) && finite_corner (corner_of i)

module _ (v : List Float) (t : List ℕ) where
  -- not "a corner that is not finite .. or, in writing, a triangle number that has no vertex"
  unfoldable pub fine_triangle : ℕ → Bool
  fine_triangle k = (fine_vertex v (get_or t (3 * k) 0) && fine_vertex v (get_or t (3 * k + 1) 0)) && fine_vertex v (get_or t (3 * k + 2) 0)

  unfoldable pub facet_of : ℕ → Facet
  facet_of k = record { a = corner_of v (get_or t (3 * k) 0); b = corner_of v (get_or t (3 * k + 1) 0); c = corner_of v (get_or t (3 * k + 2) 0) }

  abbrev pub facets_of : List Facet
  facets_of = each facet_of 0 (length t / 3)

  -- the first that is not fine, or how many there are
  abbrev pub first_refused : ℕ
  first_refused = first_bad fine_triangle 0 (length t / 3)

pub record WriteOutcome : Type 0 where
  pub answer : StlAnswer
  pub bytes : List ℕ

-- "each changes nothing"
abbrev pub unwritten : List ℕ → ℕ → ℕ → WriteOutcome
unwritten b number place = record { answer = with_place number place; bytes = b }

-- the most triangles that a u32 counts
abbrev pub count_limit : ℕ
count_limit = 4294967295

-- "byte list too short to write"; none is long enough for more triangles than its file can count
abbrev pub too_short : ℕ → ℕ → Bool
too_short n room = ltb count_limit n || ltb room (size_of n)

-- 14, then 16
unfoldable pub write_of : List Float → List ℕ → List ℕ → WriteOutcome
write_of v t b =
    let n = length t / 3 in
    cond (too_short n (length b)) (unwritten b (number_of file_room) 0)
    (cond (ltb (first_refused v t) n) (unwritten b (number_of bad_corner) (first_refused v t))
    (record { answer = with_count (size_of n); bytes = over (file_bytes (facets_of v t)) b }))
