-- One vertex and one triangle. Assumes nothing.
use Rattle.std.specs.Prelude.{ℕ, Float}
use Rattle.pieces.specs.Piece.{Vertex}
use Rattle.triangles.specs.Tri.{Tri}
use Rattle.plane.specs.declared.vector.Point.{Point}
use Rattle.endpoint.specs.declared.VertexId.{VertexId}

unfoldable pub vertex_of : Point → Point → Float → ℕ → Vertex
vertex_of place normal a source = record { x = place.x; y = place.y; normal_x = normal.x; normal_y = normal.y; advancement = a; source = source }

unfoldable pub triangle_of : VertexId → VertexId → VertexId → Tri
triangle_of a b c = record { a = a.0; b = b.0; c = c.0 }
