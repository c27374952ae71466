-- A joint has the number of the point where it stands: joints are numbered below the limit where points are. Assumes nothing.
use Prim.Native.Nat.{◌<◌}
use mathlib.Core.Bool.{Bool, true, false}
use mathlib.Core.List.{List, [], ◌∷◌, ◌++◌}
use Rattle.endpoint.specs.Endpoint.{id_limit}
use Rattle.endpoint.specs.declared.Endpoint.{Endpoint}
use Rattle.endpoint.specs.declared.EndpointData.{EndpointData}
use Rattle.lists.specs.All.{All}
use Rattle.lists.proofs.All.{all_append}
use Rattle.join.specs.Record.{side_positions_of}
use Rattle.options.specs.declared.Stroke.{Stroke}
use Rattle.joints.specs.Leg.{leg_of, first_leg_of, next_leg_of}
use Rattle.joints.specs.Joint.{data_of, unworked_of, joint_of, cap_of, start_cap_of, end_cap_of, joints_from, joints_of}
use Rattle.joints.specs.declared.leg.Leg.{Leg}

joints_from_lem : (closed : Bool) (o : Stroke) (leg : Leg) (ps : List Endpoint) → leg.to.id.0 < id_limit → All (λ (e : Endpoint). e.id.0 < id_limit) ps → All (λ (j : EndpointData). j.id.0 < id_limit) (joints_from closed o leg ps)
unfolding joints_from joint_of side_positions_of unworked_of end_cap_of cap_of data_of next_leg_of leg_of
joints_from_lem true o leg [] h g = tt
joints_from_lem false o leg [] h g = (h, tt)
joints_from_lem closed o leg (p ∷ ps) h g = (h, joints_from_lem closed o (next_leg_of o.half_width leg p) ps g.0 g.1)

pub joints_numbered : (closed : Bool) (o : Stroke) (ps : List Endpoint) → All (λ (e : Endpoint). e.id.0 < id_limit) ps → All (λ (j : EndpointData). j.id.0 < id_limit) (joints_of closed o ps)
unfolding joints_of start_cap_of cap_of data_of leg_of
joints_numbered closed o [] h = tt
joints_numbered closed o (p0 ∷ []) h = tt
joints_numbered true o (p0 ∷ p1 ∷ ps) h =
    joints_from_lem true o (first_leg_of o.half_width p0 p1) (ps ++ p0 ∷ p1 ∷ []) h.1.0 (all_append (λ (e : Endpoint). e.id.0 < id_limit) ps (p0 ∷ p1 ∷ []) h.1.1 (h.0, (h.1.0, tt)))
joints_numbered false o (p0 ∷ p1 ∷ ps) h = (h.0, joints_from_lem false o (first_leg_of o.half_width p0 p1) ps h.1.0 h.1.1)
