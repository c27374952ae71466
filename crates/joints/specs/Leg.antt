-- Rule 3: "Advancement starts at 0 in each run; the next is the last plus the edge length." Assumes nothing.
use Rattle.std.specs.Prelude.{List, [], ◌∷◌, Float}
use Rattle.plane.specs.F32.{◌⊕◌, f32}
use Rattle.endpoint.specs.declared.Endpoint.{Endpoint}
use Rattle.join.specs.Edge.{edge_of}
use Rattle.joints.specs.declared.leg.Leg.{Leg}

unfoldable pub leg_of : Float → Float → Endpoint → Endpoint → Leg
leg_of h start from to =
    let edge = edge_of from.position to.position h in
    record { from = from; to = to; start = start; end = start ⊕ edge.length; edge = edge }

abbrev pub first_leg_of : Float → Endpoint → Endpoint → Leg
first_leg_of h p0 p1 = leg_of h (f32 0) p0 p1

unfoldable pub next_leg_of : Float → Leg → Endpoint → Leg
next_leg_of h leg p = leg_of h leg.end leg.to p

-- the legs behind one, through the points ps
unfoldable pub legs_from : Float → Leg → List Endpoint → List Leg
legs_from h leg [] = []
legs_from h leg (p ∷ ps) = let next = next_leg_of h leg p in next ∷ legs_from h next ps
