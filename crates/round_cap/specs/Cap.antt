-- "A round empty cap is the square's four directions, normalized, with arcs a to b, b to c, c to d, d to a: 2^(k+2) vertices and two triangles fewer." Assumes nothing.
use Rattle.std.specs.Prelude.{ℕ, List, [], ◌∷◌, ◌++◌, Float}
use Rattle.std.specs.Float.Ieee.{neg}
use Rattle.plane.specs.F32.{f32}
use Rattle.plane.specs.Vector.{point, normalize_of}
use Rattle.plane.specs.declared.vector.Point.{Point}
use Rattle.endpoint.specs.Endpoint.{vertex_after, source_of}
use Rattle.endpoint.specs.declared.Endpoint.{Endpoint}
use Rattle.endpoint.specs.declared.Side.{Side}
use Rattle.endpoint.specs.declared.Side.TheVariants.{Positive, Negative}
use Rattle.endpoint.specs.declared.VertexId.{VertexId}
use Rattle.pieces.specs.Piece.{Vertex, Piece}
use Rattle.vertices.specs.Cap.{cap_vertex_of, cap_triangles_of}
use Rattle.arc.specs.Arc.{arc_piece}
use Rattle.arc.specs.declared.End.{End}
use Rattle.arc.specs.declared.Hub.{Hub}
use Rattle.fans.specs.Weft.{then}
use Rattle.round_cap.specs.declared.Corners.{Corners}

-- a corner: the number of its vertex and its direction, normalized
unfoldable pub corner_of : VertexId → Float → Float → End
corner_of vertex x y = record { vertex = vertex; normal = normalize_of (point x y) }

abbrev one : Float
one = f32 0x3f800000

-- "the square's four directions, normalized": (1,1), (1,-1), (-1,-1), (-1,1), as vertices/specs/Cap.antt has them
unfoldable pub corners_from : VertexId → Corners
corners_from base = record {
  a = corner_of base one one;
  b = corner_of (vertex_after base 1) one (neg one);
  c = corner_of (vertex_after base 2) (neg one) (neg one);
  d = corner_of (vertex_after base 3) (neg one) one;
}

-- "Its advancement is 0": an empty cap's
abbrev pub corner_vertex_of : Endpoint → Float → Side → Point → Vertex
corner_vertex_of e h side n = cap_vertex_of e h (f32 0) side n.x n.y

unfoldable pub pair_of : Endpoint → Float → Side → Point → Side → Point → List Vertex
pair_of e h first a second b = corner_vertex_of e h first a ∷ corner_vertex_of e h second b ∷ []

-- the sides are the square's
unfoldable pub corner_vertices : Endpoint → Float → Corners → List Vertex
corner_vertices e h q = pair_of e h Negative q.a.normal Positive q.b.normal ++ pair_of e h Positive q.c.normal Negative q.d.normal

-- the square's four vertices and two triangles
abbrev pub square_piece : VertexId → Endpoint → Float → Corners → Piece
square_piece base e h q = record { vertices = corner_vertices e h q; triangles = cap_triangles_of base }

-- two neighbours' sum is never short, so what is ahead plays no role
unfoldable pub rim_of : Endpoint → Float → Side → Hub
rim_of e h side = record { position = e.position; half_width = h; advancement = f32 0; source = source_of e.id side; ahead = point one (f32 0) }

-- an arc from a to b, and one from b to c
unfoldable pub half_weft : ℕ → Hub → Hub → End → End → End → ℕ → Piece
half_weft k first second a b c = then (λ (i : ℕ). arc_piece k first i a b) (λ (i : ℕ). arc_piece k second i b c)

-- "arcs a to b, b to c, c to d, d to a": an arc has the side of the corner it begins at
unfoldable pub rim_weft : ℕ → Endpoint → Float → Corners → ℕ → Piece
rim_weft k e h q =
    then (half_weft k (rim_of e h Negative) (rim_of e h Positive) q.a q.b q.c) (half_weft k (rim_of e h Positive) (rim_of e h Negative) q.c q.d q.a)

abbrev pub round_cap_piece : ℕ → VertexId → Endpoint → Float → Piece
round_cap_piece k base e h = let q = corners_from base in then (λ (i : ℕ). square_piece base e h q) (rim_weft k e h q) base.0
