-- Rule 1: "A run keeps its first point p0. A later point is dropped if its f32 squared distance to the last kept is below 2^-14. On a closed
-- end, the last kept is dropped while more than one is kept and it is that near p0." Assumes nothing.
use Rattle.std.specs.Prelude.{Bool, true, ◌&&◌, cond, List, [], ◌∷◌, Float}
use Rattle.std.specs.Float.Ieee.{lt}
use Rattle.plane.specs.Vector.{minus_of, square_length_of}
use Rattle.plane.specs.declared.vector.Point.{Point}
use Rattle.endpoint.specs.declared.Endpoint.{Endpoint}

-- b is near a; of the limit, which was 2^-14, W-201 has "that range squared in f32"
unfoldable pub near_of : Float → Point → Point → Bool
near_of limit a b = lt (square_length_of (minus_of b a)) limit

module _ (limit : Float) where
  abbrev pub near : Endpoint → Endpoint → Bool
  near a b = near_of limit a.position b.position

  -- of the points behind the kept point l, those that are kept
  unfoldable pub kept_behind : Endpoint → List Endpoint → List Endpoint
  kept_behind l [] = []
  kept_behind l (p ∷ ps) = cond (near l p) (kept_behind l ps) (p ∷ kept_behind p ps)

  unfoldable pub all_near : Endpoint → List Endpoint → Bool
  all_near p0 [] = true
  all_near p0 (p ∷ ps) = near p0 p && all_near p0 ps

  -- the kept points behind p0, without the last ones that are near it
  unfoldable pub trimmed : Endpoint → List Endpoint → List Endpoint
  trimmed p0 [] = []
  trimmed p0 (p ∷ ps) = cond (all_near p0 (p ∷ ps)) [] (p ∷ trimmed p0 ps)

  unfoldable pub kept_points : Bool → List Endpoint → List Endpoint
  kept_points closed [] = []
  kept_points closed (p0 ∷ ps) = p0 ∷ cond closed (trimmed p0 (kept_behind p0 ps)) (kept_behind p0 ps)
