-- The file: "80 header bytes, a little-endian u32 count, then 50 bytes to a triangle (normal, three corners, a u16)". Assumes nothing.
use Rattle.std.specs.Prelude.{ℕ, ◌+◌, ◌*◌, List, [], ◌∷◌, ◌++◌, Float, length}
use Rattle.std.specs.Float.{binary32}
use Rattle.std.specs.Float.Ieee.{to_bits}
use Rattle.lists.specs.Over.{flat}
use Rattle.plane.specs.Vector.{point}
use Rattle.plane.specs.declared.vector.Point.{Point}
use Rattle.stl.specs.Bytes.{zeros, le32, word_at, float_at}
use Rattle.stl.specs.Each.{each}
use Rattle.stl.specs.declared.facet.Facet.{Facet}

-- ---- as it is written: "header, normals, z and u16 all zero bytes"
unfoldable pub corner_bytes : Point → List ℕ
corner_bytes p = le32 (to_bits binary32 p.x) ++ (le32 (to_bits binary32 p.y) ++ zeros 4)

unfoldable pub facet_bytes : Facet → List ℕ
facet_bytes f = zeros 12 ++ (corner_bytes f.a ++ (corner_bytes f.b ++ (corner_bytes f.c ++ zeros 2)))

unfoldable pub file_bytes : List Facet → List ℕ
file_bytes fs = zeros 80 ++ (le32 (length fs) ++ flat facet_bytes fs)

-- ---- as it is read: "The reader ignores header, normals and u16."
-- "84 plus 50 times the count": how long a file of n triangles is, and where the triangle n begins
abbrev pub size_of : ℕ → ℕ
size_of n = 84 + 50 * n

abbrev pub count_in : List ℕ → ℕ
count_in b = word_at b 80

abbrev pub corner_at : List ℕ → ℕ → Point
corner_at b i = point (float_at b i) (float_at b (i + 4))

abbrev pub z_at : List ℕ → ℕ → Float
z_at b i = float_at b (i + 8)

-- behind the normal
unfoldable pub facet_at : List ℕ → ℕ → Facet
facet_at b k = record { a = corner_at b (size_of k + 12); b = corner_at b (size_of k + 24); c = corner_at b (size_of k + 36) }

abbrev pub facets_in : List ℕ → List Facet
facets_in b = each (facet_at b) 0 (count_in b)

-- "x, y corners"
abbrev pub corners_of : Facet → List Float
corners_of f = f.a.x ∷ f.a.y ∷ f.b.x ∷ f.b.y ∷ f.c.x ∷ f.c.y ∷ []
