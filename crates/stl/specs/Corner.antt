-- What a corner may be: "a corner that is not finite, a z that isn't zero" are refused. Assumes nothing.
use Rattle.std.specs.Prelude.{Bool, true, false, ◌&&◌, eqb, Float}
use Rattle.std.specs.Float.{nan, inf, fin}
use Rattle.plane.specs.declared.vector.Point.{Point}

unfoldable pub finite : Float → Bool
finite nan = false
finite (inf s) = false
finite (fin s m e) = true

-- of either sign
unfoldable pub is_zero : Float → Bool
is_zero nan = false
is_zero (inf s) = false
is_zero (fin s m e) = eqb m 0

unfoldable pub finite_corner : Point → Bool
finite_corner p = finite p.x && finite p.y
