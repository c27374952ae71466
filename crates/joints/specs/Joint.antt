-- Rules 5 and 7: what stands along a run. "A join is worked from the unmoved points of its two edges, both sides"; "A cap section is the two
-- side points, each plus q*clip; q is outward along the path (-t at the start, t at the end)". Assumes nothing.
use Rattle.std.specs.Prelude.{Bool, true, false, cond, List, [], ◌∷◌, ◌++◌, Float}
use Rattle.plane.specs.Vector.{plus_of, times_of, negated_of}
use Rattle.plane.specs.declared.vector.Point.{Point}
use Rattle.endpoint.specs.Endpoint.{single_of}
use Rattle.endpoint.specs.declared.Endpoint.{Endpoint}
use Rattle.endpoint.specs.declared.EndpointData.{EndpointData}
use Rattle.endpoint.specs.declared.InnerJoin.TheVariants.{Neither}
use Rattle.endpoint.specs.declared.SidePoints.{SidePoints}
use Rattle.join.specs.Record.{side_positions_of}
use Rattle.options.specs.declared.Stroke.{Stroke}
use Rattle.joints.specs.Leg.{first_leg_of, next_leg_of}
use Rattle.joints.specs.declared.leg.Leg.{Leg}

-- an endpoint with its advancement and its sides
unfoldable pub data_of : Stroke → Endpoint → Float → SidePoints → SidePoints → EndpointData
data_of o p a positive negative = record {
  position = p.position;
  half_width = o.half_width;
  advancement = a;
  line_join = o.line_join;
  id = p.id;
  positive = positive;
  negative = negative;
  fold_positive = false;
  fold_negative = false;
  inner_join = Neither;
}

-- the endpoint where a leg ends, before its sides are worked
unfoldable pub unworked_of : Stroke → Leg → EndpointData
unworked_of o leg = let none = single_of leg.to.position in data_of o leg.to leg.end none none

-- the join where a leg ends and the next begins: the endpoint with its sides worked
unfoldable pub joint_of : Stroke → Leg → Leg → EndpointData
joint_of o leg next = side_positions_of leg.edge (unworked_of o leg) next.edge leg.start next.end o.miter_limit

unfoldable pub cap_of : Stroke → Endpoint → Float → Point → Point → Point → EndpointData
cap_of o p a positive negative outward =
    let out = times_of outward o.clip in
    data_of o p a (single_of (plus_of positive out)) (single_of (plus_of negative out))

unfoldable pub start_cap_of : Stroke → Leg → EndpointData
start_cap_of o leg = let e = leg.edge in cap_of o leg.from leg.start e.positive.from e.negative.from (negated_of e.t)

unfoldable pub end_cap_of : Stroke → Leg → EndpointData
end_cap_of o leg = let e = leg.edge in cap_of o leg.to leg.end e.positive.to e.negative.to e.t

-- the joints from a leg on: one where it meets the next, and in an open run the end cap
unfoldable pub joints_from : Bool → Stroke → Leg → List Endpoint → List EndpointData
joints_from closed o leg [] = cond closed [] (end_cap_of o leg ∷ [])
joints_from closed o leg (p ∷ ps) = let next = next_leg_of o.half_width leg p in joint_of o leg next ∷ joints_from closed o next ps

-- Rule 9's order. "In a closed run p0 comes again as point n and p1 as point n+1, their advancements carried on; join 0 is worked at point n."
unfoldable pub joints_of : Bool → Stroke → List Endpoint → List EndpointData
joints_of closed o [] = []
joints_of closed o (p0 ∷ []) = []
joints_of true o (p0 ∷ p1 ∷ ps) = joints_from true o (first_leg_of o.half_width p0 p1) (ps ++ p0 ∷ p1 ∷ [])
joints_of false o (p0 ∷ p1 ∷ ps) = let leg = first_leg_of o.half_width p0 p1 in start_cap_of o leg ∷ joints_from false o leg ps
