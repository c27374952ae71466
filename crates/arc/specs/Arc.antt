-- "An arc between two directions .. puts a vertex at their normalized sum, which is its normal as it stands .., writes (start, middle, end), then does the
-- same to the first half and to the second, k levels deep: 2^k - 1 vertices and as many triangles." Assumes nothing.
use Rattle.std.specs.Prelude.{ℕ, zero, suc, ◌+◌, ◌^◌, List, [], ◌∷◌, ◌++◌, map}
use Rattle.std.specs.Float.Ieee.{lt}
use Rattle.plane.specs.Normal.{epsilon, pick}
use Rattle.plane.specs.Vector.{plus_of, times_of, square_length_of, normalize_of}
use Rattle.plane.specs.declared.vector.Point.{Point}
use Rattle.pieces.specs.Piece.{Vertex, Piece, joined}
use Rattle.triangles.specs.Tri.{Tri}
use Rattle.vertices.specs.Vertex.{vertex_of}
use Rattle.arc.specs.declared.End.{End}
use Rattle.arc.specs.declared.Hub.{Hub}

-- "Where the sum's squared length is below 1e-4, the middle is the travel direction in (in a cap, outward)": ahead
unfoldable pub middle_of : Point → Point → Point → Point
middle_of ahead a b = pick (lt (square_length_of (plus_of a b)) epsilon) ahead (normalize_of (plus_of a b))

-- the normals of the arc's vertices, as written
unfoldable pub arc_normals : ℕ → Point → Point → Point → List Point
arc_normals zero ahead a b = []
arc_normals (suc k) ahead a b = let m = middle_of ahead a b in m ∷ (arc_normals k ahead a m ++ arc_normals k ahead m b)

-- its triangles, from the vertex a to b; the arc's own are numbered from i on, as written
unfoldable pub arc_triangles : ℕ → ℕ → ℕ → ℕ → List Tri
arc_triangles zero i a b = []
arc_triangles (suc k) i a b = record { a = a; b = i; c = b } ∷ (arc_triangles k (i + 1) a i ++ arc_triangles k (i + 2 ^ k) i b)

-- a vertex of the arc: "its normal as it stands, without rule 8's division", "with their centre's advancement"
unfoldable pub arc_vertex_of : Hub → Point → Vertex
arc_vertex_of hub m = vertex_of (plus_of hub.position (times_of m hub.half_width)) m hub.advancement hub.source

unfoldable pub arc_vertices : ℕ → Hub → Point → Point → List Vertex
arc_vertices k hub a b = map (arc_vertex_of hub) (arc_normals k hub.ahead a b)

-- the arc from one end to the other, where its first vertex has the number i
abbrev pub arc_piece : ℕ → Hub → ℕ → End → End → Piece
arc_piece k hub i a b = record { vertices = arc_vertices k hub a.normal b.normal; triangles = arc_triangles k i a.vertex.0 b.vertex.0 }

-- its middle alone, in the direction m: one vertex, and "(start, middle, end)"
abbrev pub middle_piece : Hub → ℕ → End → End → Point → Piece
middle_piece hub i a b m = record { vertices = arc_vertex_of hub m ∷ []; triangles = record { a = a.vertex.0; b = i; c = b.vertex.0 } ∷ [] }

-- The middle in a given direction, then an arc of k levels to it and one from it: near is what the first arc's vertices share, far what the middle and the second's do.
abbrev pub fan_piece : ℕ → Hub → Hub → ℕ → End → End → End → Piece
fan_piece k near far i a b mid = joined (middle_piece far i a b mid.normal) (joined (arc_piece k near (i + 1) a mid) (arc_piece k far (i + 2 ^ k) mid b))

-- the same with another record
abbrev pub recorded : Hub → ℕ → Hub
recorded hub source = record { position = hub.position; half_width = hub.half_width; advancement = hub.advancement; source = source; ahead = hub.ahead }

-- "A round cap .. is cut first by the outward direction, then holds two arcs": of an arc vertex the record "has the side of its whole arc's first vertex; the outward
-- one is positive". The hub's record is the positive side's, source that of a.
abbrev pub cap_piece : ℕ → Hub → ℕ → ℕ → End → End → Piece
cap_piece k hub source i a b = fan_piece k (recorded hub source) hub i a b (record { vertex = record { 0 = i }; normal = hub.ahead })
