-- The coordinates: "Coordinates are finite, -32,768 to 32,768." Assumes nothing.
use Rattle.std.specs.Prelude.{ℕ, suc, Bool, List, [], ◌∷◌, Float}
use Rattle.plane.specs.F32.{f32, size_at_most}
use Rattle.plane.specs.Normal.{pick}

-- 32,768
abbrev pub coordinate_limit : Float
coordinate_limit = f32 0x47000000

unfoldable pub coordinate_in : Float → Bool
coordinate_in x = size_at_most x coordinate_limit

-- of "a coordinate not finite or too large" the "first index", or their number where there is none
unfoldable pub first_outside : List Float → ℕ
first_outside [] = 0
first_outside (x ∷ xs) = pick (coordinate_in x) (suc (first_outside xs)) 0
