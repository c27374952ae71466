-- Rule 8: "A vertex's normal is (point - position)/h and its place is position + normal*h, as in `StrokeVertex`. Order: positive side, then
-- negative; in a pair, first point then second." Assumes nothing.
use Rattle.std.specs.Prelude.{List, [], ◌∷◌, Float}
use Rattle.plane.specs.Vector.{point, plus_of, minus_of, times_of, divided_of}
use Rattle.endpoint.specs.Endpoint.{source_of}
use Rattle.endpoint.specs.declared.EndpointData.{EndpointData}
use Rattle.endpoint.specs.declared.Side.{Side}
use Rattle.endpoint.specs.declared.Side.TheVariants.{Positive, Negative}
use Rattle.endpoint.specs.declared.SidePoints.{SidePoints}
use Rattle.endpoint.specs.declared.SidePoints.TheVariants.{Single, Pair}
use Rattle.pieces.specs.Piece.{Vertex}
use Rattle.vertices.specs.Vertex.{vertex_of}

-- the vertex of the point (x, y) beside the endpoint e, which it came from with its side
unfoldable pub base_vertex_of : EndpointData → Side → Float → Float → Vertex
base_vertex_of e side x y =
    let normal = divided_of (minus_of (point x y) e.position) e.half_width in
    vertex_of (plus_of e.position (times_of normal e.half_width)) normal e.advancement (source_of e.id side)

unfoldable pub side_vertices_of : EndpointData → Side → SidePoints → List Vertex
side_vertices_of e side (Single x y) = base_vertex_of e side x y ∷ []
side_vertices_of e side (Pair x0 y0 x1 y1) = base_vertex_of e side x0 y0 ∷ base_vertex_of e side x1 y1 ∷ []

abbrev pub side_points_of : EndpointData → Side → SidePoints
side_points_of e Positive = e.positive
side_points_of e Negative = e.negative

abbrev pub base_vertices_of : EndpointData → Side → List Vertex
base_vertices_of e side = side_vertices_of e side (side_points_of e side)
