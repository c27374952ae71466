-- A run point by point: the leg that was reached, and the joints that a point brings. Assumes nothing.
use Rattle.std.specs.Prelude.{drop, Bool, true, not, ◌&&◌, cond, List, [], ◌∷◌, Float}
use Rattle.endpoint.specs.declared.Endpoint.{Endpoint}
use Rattle.endpoint.specs.declared.EndpointData.{EndpointData}
use Rattle.options.specs.declared.Stroke.{Stroke}
use Rattle.kept.specs.Kept.{near, kept_behind}
use Rattle.kept.specs.Held.{points_of}
use Rattle.joints.specs.Leg.{next_leg_of}
use Rattle.joints.specs.Joint.{joint_of, joints_from}
use Rattle.joints.specs.declared.leg.Leg.{Leg}
use Rattle.along.specs.declared.stretch.Stretch.{Stretch}

-- the next point is kept: the leg to it, and the joint that the last leg ends in
abbrev pub advanced : Stroke → Leg → Endpoint → List EndpointData
advanced o leg p = joint_of o leg (next_leg_of o.half_width leg p) ∷ []

-- the next point is dropped where it is near, unless it is sure to be kept
abbrev pub drops : Float → Bool → Leg → Endpoint → Bool
drops limit sure leg p = not sure && near limit leg.to p

unfoldable pub visit_of : Bool → Stroke → Leg → Endpoint → Leg
visit_of sure o leg p = cond (drops o.near sure leg p) leg (next_leg_of o.half_width leg p)

unfoldable pub visited : Bool → Stroke → Leg → Endpoint → List EndpointData
visited sure o leg p = cond (drops o.near sure leg p) [] (advanced o leg p)

-- the points ps: which are kept behind l, the leg reached, and the joints on the way
abbrev pub keeps : Float → Bool → Endpoint → List Endpoint → List Endpoint
keeps limit sure l ps = cond sure ps (kept_behind limit l ps)

unfoldable pub walked : Bool → Stroke → Leg → List Endpoint → Leg
walked sure o leg [] = leg
walked sure o leg (p ∷ ps) = walked sure o (visit_of sure o leg p) ps

abbrev pub passed : Bool → Stroke → Leg → List Endpoint → List EndpointData
passed sure o leg ps = joints_from true o leg (keeps o.near sure leg.to ps)

-- the points of a stretch
abbrev pub to_pass : Stretch → List Endpoint
to_pass s = drop s.from (points_of s.points)
