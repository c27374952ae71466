-- "Demand 3's counts grow by these": what the arcs of a run add, as many vertices as triangles. Assumes nothing.
use Rattle.std.specs.Prelude.{ℕ, suc, ◌+◌, ◌-◌, ◌*◌, ◌^◌, Bool, cond, List, [], ◌∷◌}
use Rattle.endpoint.specs.declared.EndpointData.{EndpointData}
use Rattle.endpoint.specs.declared.Side.TheVariants.{Positive, Negative}
use Rattle.fans.specs.Fans.{gets_arc}
use Rattle.fans.specs.declared.Round.{Round}

-- how many sides of the joints get an arc
unfoldable pub arc_sides : Bool → List EndpointData → ℕ
arc_sides round [] = 0
arc_sides round (j ∷ js) = cond (gets_arc round j Positive) 1 0 + cond (gets_arc round j Negative) 1 0 + arc_sides round js

-- "2^k - 1 vertices and as many triangles" to an arc, "2^(k+1) - 1 of each" to each of the two caps of an open run
abbrev pub added_of : Bool → Round → List EndpointData → ℕ
added_of closed r js = arc_sides r.joins js * (2 ^ r.detail - 1) + cond closed 0 (cond r.caps (2 * (2 ^ suc r.detail - 1)) 0)
