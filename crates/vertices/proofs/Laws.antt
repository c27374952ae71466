-- How much is written: one vertex to a Single and two to a Pair, four to an empty cap. Assumes nothing.
use mathlib.Core.Path.{◌≡◌, refl}
use lib.ListN.{length}
use lib.Ieee.{Float}
use Rattle.endpoint.specs.Endpoint.{side_count_of}
use Rattle.endpoint.specs.declared.Endpoint.{Endpoint}
use Rattle.endpoint.specs.declared.EndpointData.{EndpointData}
use Rattle.endpoint.specs.declared.Side.{Side}
use Rattle.endpoint.specs.declared.SidePoints.{SidePoints}
use Rattle.endpoint.specs.declared.SidePoints.TheVariants.{Single, Pair}
use Rattle.vertices.specs.Base.{side_vertices_of}
use Rattle.vertices.specs.Cap.{cap_pair_of, cap_vertices_of}

pub length_side : (e : EndpointData) (side : Side) (p : SidePoints) → length (side_vertices_of e side p) ≡ side_count_of p
unfolding side_vertices_of
length_side e side (Single x y) = refl
length_side e side (Pair x0 y0 x1 y1) = refl

pub length_cap : (e : Endpoint) (h a : Float) → length (cap_vertices_of e h a) ≡ 4
unfolding cap_vertices_of cap_pair_of
length_cap e h a = refl
