-- What a pass along a run does. Assumes nothing.
use Rattle.std.specs.Prelude.{◌≡◌, Bool, true, List}
use Rattle.endpoint.specs.declared.Endpoint.{Endpoint}
use Rattle.endpoint.specs.declared.EndpointData.{EndpointData}
use Rattle.joints.specs.Joint.{joints_from}
use Rattle.joints.specs.declared.leg.Leg.{Leg}
use Rattle.pieces.specs.Piece.{Lists}
use Rattle.strip.specs.Strip.{StripFits, StripPasses}
use Rattle.along.specs.Points.{walked}
use Rattle.along.specs.declared.Pass.{Pass}
use Rattle.along.specs.declared.Walk.{Walk}

-- from w on the joints js are passed, and the leg reached is to
pub record Walks (write : Bool) (js : List EndpointData) (to : Leg) (w : Walk) (l l' : Lists) (r : Walk) : Type 0 where
  pub leg : r.leg ≡ to
  pub puts : StripPasses write js w.strip l l' r.strip

-- what a pass needs from w on at the points ps, which are kept, and what it does
abbrev pub needs_of : Pass → Unit {0} → List Endpoint → Walk → Lists → Type 0
needs_of pass ink ps w l = StripFits pass.write w.strip (joints_from true pass.stroke w.leg ps) l

abbrev pub does_of : Pass → Unit {0} → List Endpoint → Walk → Lists → Lists → Walk → Type 0
does_of pass ink ps w l l' r = Walks pass.write (joints_from true pass.stroke w.leg ps) (walked true pass.stroke w.leg ps) w l l' r
