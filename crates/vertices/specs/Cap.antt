-- The empty square cap: "four vertices, two triangles", in the source's order and with its directions as the normals. Assumes nothing.
use Rattle.std.specs.Prelude.{List, [], ◌∷◌, ◌++◌, Float}
use Rattle.std.specs.Float.Ieee.{neg}
use Rattle.plane.specs.F32.{f32}
use Rattle.plane.specs.Vector.{point, plus_of, times_of}
use Rattle.endpoint.specs.Endpoint.{vertex_after, source_of}
use Rattle.endpoint.specs.declared.Endpoint.{Endpoint}
use Rattle.endpoint.specs.declared.Side.{Side}
use Rattle.endpoint.specs.declared.Side.TheVariants.{Positive, Negative}
use Rattle.endpoint.specs.declared.VertexId.{VertexId}
use Rattle.pieces.specs.Piece.{Vertex}
use Rattle.triangles.specs.Tri.{Tri}
use Rattle.vertices.specs.Vertex.{vertex_of, triangle_of}

unfoldable pub cap_vertex_of : Endpoint → Float → Float → Side → Float → Float → Vertex
cap_vertex_of e h a side x y = vertex_of (plus_of e.position (times_of (point x y) h)) (point x y) a (source_of e.id side)

-- the directions (1,1), (1,-1), (-1,-1), (-1,1); "Empty-cap vertices take their side from the source"
unfoldable pub cap_pair_of : Endpoint → Float → Float → Float → Side → Side → List Vertex
cap_pair_of e h a x first second = cap_vertex_of e h a first x x ∷ cap_vertex_of e h a second x (neg x) ∷ []

unfoldable pub cap_vertices_of : Endpoint → Float → Float → List Vertex
cap_vertices_of e h a = cap_pair_of e h a (f32 0x3f800000) Negative Positive ++ cap_pair_of e h a (neg (f32 0x3f800000)) Positive Negative

-- (a, b, c) and (a, c, d), where a is base
unfoldable pub cap_triangles_of : VertexId → List Tri
cap_triangles_of base = triangle_of base (vertex_after base 1) (vertex_after base 2) ∷ triangle_of base (vertex_after base 2) (vertex_after base 3) ∷ []
