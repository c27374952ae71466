-- "a list of coordinates, two to each begin or line"; endpoints are numbered from first on. Assumes nothing.
use Rattle.std.specs.Prelude.{ℕ, ◌+◌, ◌*◌, List, [], ◌∷◌, Float, get_or}
use Rattle.std.specs.Float.{nan}
use Rattle.plane.specs.Vector.{point}
use Rattle.endpoint.specs.declared.Endpoint.{Endpoint}

abbrev pub endpoint : Float → Float → ℕ → Endpoint
endpoint x y n = record { position = point x y; id = record { 0 = n } }

unfoldable pub endpoints_of : ℕ → List Float → List Endpoint
endpoints_of first [] = []
endpoints_of first (x ∷ []) = []
endpoints_of first (x ∷ y ∷ cs) = endpoint x y first ∷ endpoints_of (first + 1) cs

-- number i of them
abbrev pub endpoint_at : List Float → ℕ → ℕ → Endpoint
endpoint_at p first i = endpoint (get_or p (2 * i) nan) (get_or p (2 * i + 1) nan) (first + i)
