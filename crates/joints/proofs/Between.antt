-- "A join is worked from the unmoved points of its two edges": the joints behind a leg follow from the legs alone, each from the two that meet there.
-- Assumes nothing.
use mathlib.Core.Path.{◌≡◌, refl, ap}
use mathlib.Core.Bool.{true}
use mathlib.Core.List.{List, [], ◌∷◌}
use Rattle.endpoint.specs.declared.Endpoint.{Endpoint}
use Rattle.endpoint.specs.declared.EndpointData.{EndpointData}
use Rattle.options.specs.declared.Stroke.{Stroke}
use Rattle.joints.specs.Leg.{next_leg_of, legs_from}
use Rattle.joints.specs.Joint.{joint_of, joints_from}
use Rattle.joints.specs.declared.leg.Leg.{Leg}

-- one where each leg meets the next
unfoldable pub between : Stroke → Leg → List Leg → List EndpointData
between o leg [] = []
between o leg (next ∷ legs) = joint_of o leg next ∷ between o next legs

pub joints_between : (o : Stroke) (leg : Leg) (ps : List Endpoint) → joints_from true o leg ps ≡ between o leg (legs_from o.half_width leg ps)
unfolding joints_from legs_from between
joints_between o leg [] = refl
joints_between o leg (p ∷ ps) =
    let next = next_leg_of o.half_width leg p in
    ap (λ (js : List EndpointData). joint_of o leg next ∷ js) (joints_between o next ps)
