-- Rule 8 for a run's joints: their vertices, and how many they are. A joint is an endpoint whose side points a join or a cap gave. Assumes nothing.
use Rattle.std.specs.Prelude.{ℕ, ◌+◌, ◌-◌, List, [], ◌∷◌, ◌++◌}
use Rattle.endpoint.specs.Endpoint.{side_count_of}
use Rattle.endpoint.specs.declared.EndpointData.{EndpointData}
use Rattle.endpoint.specs.declared.Side.TheVariants.{Positive, Negative}
use Rattle.pieces.specs.Piece.{Vertex}
use Rattle.vertices.specs.Base.{base_vertices_of}

-- "Each side is Single with its point or Pair with two points"
abbrev pub joint_count : EndpointData → ℕ
joint_count j = side_count_of j.positive + side_count_of j.negative

-- the same of a run's joints
unfoldable pub vertex_count : List EndpointData → ℕ
vertex_count [] = 0
vertex_count (j ∷ js) = joint_count j + vertex_count js

-- "Order: positive side, then negative"
unfoldable pub joint_vertices_of : EndpointData → List Vertex
joint_vertices_of j = base_vertices_of j Positive ++ base_vertices_of j Negative

-- joint after joint
unfoldable pub vertices_of : List EndpointData → List Vertex
vertices_of [] = []
vertices_of (j ∷ js) = joint_vertices_of j ++ vertices_of js

-- "With d pair sides"
unfoldable pub pair_sides : List EndpointData → ℕ
pair_sides [] = 0
pair_sides (j ∷ js) = (side_count_of j.positive - 1) + (side_count_of j.negative - 1) + pair_sides js
