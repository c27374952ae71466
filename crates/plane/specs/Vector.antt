-- Points and vectors: euclid's order of operations. "Length is the root of x*x + y*y, normalizing divides both components by it." Assumes nothing.
use Rattle.std.specs.Prelude.{Float}
use Rattle.std.specs.Float.Ieee.{neg}
use Rattle.root.specs.Compute.{root_of}
use Rattle.plane.specs.F32.{◌⊕◌, ◌⊖◌, ◌⊗◌, ◌⊘◌}
use Rattle.plane.specs.declared.vector.Point.{Point}

abbrev pub point : Float → Float → Point
point x y = record { x = x; y = y }

unfoldable pub plus_of : Point → Point → Point
plus_of a b = point (a.x ⊕ b.x) (a.y ⊕ b.y)

unfoldable pub minus_of : Point → Point → Point
minus_of a b = point (a.x ⊖ b.x) (a.y ⊖ b.y)

unfoldable pub times_of : Point → Float → Point
times_of a k = point (a.x ⊗ k) (a.y ⊗ k)

unfoldable pub divided_of : Point → Float → Point
divided_of a k = point (a.x ⊘ k) (a.y ⊘ k)

unfoldable pub negated_of : Point → Point
negated_of a = point (neg a.x) (neg a.y)

-- a quarter turn, from the x axis to the y axis
unfoldable pub turned_of : Point → Point
turned_of a = point (neg a.y) a.x

unfoldable pub dot_of : Point → Point → Float
dot_of a b = a.x ⊗ b.x ⊕ a.y ⊗ b.y

unfoldable pub cross_of : Point → Point → Float
cross_of a b = a.x ⊗ b.y ⊖ a.y ⊗ b.x

unfoldable pub square_length_of : Point → Float
square_length_of a = a.x ⊗ a.x ⊕ a.y ⊗ a.y

unfoldable pub length_of : Point → Float
length_of a = root_of (square_length_of a)

unfoldable pub normalize_of : Point → Point
normalize_of a = divided_of a (length_of a)
