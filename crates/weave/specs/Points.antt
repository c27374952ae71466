-- The joints of a run with the legs that end in them, and point by point those that a point brings. Assumes nothing.
use Rattle.std.specs.Prelude.{Bool, true, false, cond, List, [], ◌∷◌, ◌++◌}
use Rattle.endpoint.specs.declared.Endpoint.{Endpoint}
use Rattle.options.specs.declared.Stroke.{Stroke}
use Rattle.joints.specs.Joint.{joint_of, end_cap_of}
use Rattle.joints.specs.Leg.{first_leg_of, next_leg_of}
use Rattle.joints.specs.declared.leg.Leg.{Leg}
use Rattle.along.specs.Points.{keeps}
use Rattle.bends.specs.declared.Bend.{Bend}

-- where a leg meets the next
abbrev pub bend_of : Stroke → Leg → Leg → Bend
bend_of o leg next = record { joint = joint_of o leg next; leg = leg; end = false }

abbrev pub end_bend : Stroke → Leg → Bend
end_bend o leg = record { joint = end_cap_of o leg; leg = leg; end = true }

-- the joints from a leg on: one where it meets the next, and in an open run the end cap
unfoldable pub bends_from : Bool → Stroke → Leg → List Endpoint → List Bend
bends_from closed o leg [] = cond closed [] (end_bend o leg ∷ [])
bends_from closed o leg (p ∷ ps) = let next = next_leg_of o.half_width leg p in bend_of o leg next ∷ bends_from closed o next ps

-- Rule 9's order, behind the start cap of an open run
unfoldable pub bends_of : Bool → Stroke → List Endpoint → List Bend
bends_of closed o [] = []
bends_of closed o (p0 ∷ []) = []
bends_of true o (p0 ∷ p1 ∷ ps) = bends_from true o (first_leg_of o.half_width p0 p1) (ps ++ p0 ∷ p1 ∷ [])
bends_of false o (p0 ∷ p1 ∷ ps) = bends_from false o (first_leg_of o.half_width p0 p1) ps

-- the next point is kept
abbrev pub advanced : Stroke → Leg → Endpoint → List Bend
advanced o leg p = bend_of o leg (next_leg_of o.half_width leg p) ∷ []

-- the joints on the way along the points ps
abbrev pub passed : Bool → Stroke → Leg → List Endpoint → List Bend
passed sure o leg ps = bends_from true o leg (keeps o.near sure leg.to ps)
