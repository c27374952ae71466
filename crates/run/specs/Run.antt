-- What a run draws. Assumes nothing.
use Rattle.std.specs.Prelude.{ℕ, ◌+◌, ◌^◌, Bool, false, ◌||◌, cond, List, [], ◌∷◌, ltb, length}
use Rattle.plane.specs.F32.{f32}
use Rattle.endpoint.specs.declared.Endpoint.{Endpoint}
use Rattle.endpoint.specs.declared.EndpointData.{EndpointData}
use Rattle.endpoint.specs.declared.VertexId.{VertexId}
use Rattle.triangles.specs.Tri.{Tri}
use Rattle.pieces.specs.Piece.{Vertex, Piece, Lists, from, Fits, Passes}
use Rattle.pieces.specs.declared.Place.{Place}
use Rattle.options.specs.Options.{rounds_joins, rounds_caps, is_round, level_of}
use Rattle.options.specs.declared.LineCap.{LineCap}
use Rattle.options.specs.declared.LineCap.TheVariants.{Butt, Square, Round}
use Rattle.options.specs.declared.Stroke.{Stroke}
use Rattle.vertices.specs.Cap.{cap_vertices_of}
use Rattle.kept.specs.Kept.{kept_points}
use Rattle.joints.specs.Joint.{joints_of}
use Rattle.along.specs.declared.Pass.{Pass}
use Rattle.strip.specs.Joint.{vertex_count, vertices_of}
use Rattle.strip.specs.Triangle.{triangles_of}
use Rattle.fans.specs.declared.Round as fans
use Rattle.round_cap.specs.Cap.{round_cap_piece}
use Rattle.woven.specs.Counts.{added_of}
use Rattle.woven.specs.Woven.{round_piece}

-- nothing, the empty cap at a point, or a strip along joints; W-209: the round empty cap, or a strip with arcs, closed or not, of two kept points or more
pub data Shape : Type 0 where
  nothing : Shape
  empty_cap : Endpoint → Shape
  along : List EndpointData → Shape
  round_cap : Stroke → Endpoint → Shape
  round_along : Bool → Stroke → Endpoint → Endpoint → List Endpoint → Shape

-- Rule 2: "n = 1: with Square, and a closed end or at least one line verb, the empty cap; otherwise nothing."; with Round as with Square
abbrev pub draws_cap : LineCap → Bool → Bool → Bool
draws_cap Butt closed lines = false
draws_cap Square closed lines = closed || lines
draws_cap Round closed lines = closed || lines

-- the empty cap of a stroke
abbrev pub cap_shape : Stroke → Endpoint → Shape
cap_shape o p = cond (rounds_caps o.cap) (round_cap o p) (empty_cap p)

-- a strip along two kept points or more
abbrev pub round_shape : Bool → Stroke → List Endpoint → Shape
round_shape closed o [] = nothing
round_shape closed o (p ∷ []) = nothing
round_shape closed o (p ∷ q ∷ ks) = round_along closed o p q ks

abbrev pub strip_shape : Bool → Stroke → List Endpoint → Shape
strip_shape closed o ks = cond (is_round o) (round_shape closed o ks) (along (joints_of closed o ks))

abbrev pub shape_of_kept : Stroke → Bool → Bool → List Endpoint → Shape
shape_of_kept o closed lines [] = nothing
shape_of_kept o closed lines (p ∷ []) = cond (draws_cap o.cap closed lines) (cap_shape o p) nothing
shape_of_kept o closed lines (p ∷ q ∷ ks) = strip_shape closed o (p ∷ q ∷ ks)

-- a run's points are those of its begin and of its lines
unfoldable pub shape_of : Stroke → Bool → List Endpoint → Shape
shape_of o closed ps = shape_of_kept o closed (ltb 1 (length ps)) (kept_points o.near closed ps)

-- what of a stroke is round, and how deep its arcs go
unfoldable pub round_of : Stroke → fans.Round
round_of o = record { joins = rounds_joins o.line_join; caps = rounds_caps o.cap; detail = level_of o }

-- "2^(k+2) vertices" of a round empty cap, four of a square one
abbrev pub round_cap_size : Stroke → ℕ
round_cap_size o = 2 ^ (level_of o + 2)

abbrev pub cap_size : Stroke → ℕ
cap_size o = cond (rounds_caps o.cap) (round_cap_size o) 4

-- what arcs add to a strip along kept points
abbrev pub arcs_added : Bool → Stroke → List Endpoint → ℕ
arcs_added closed o ks = cond (is_round o) (added_of closed (round_of o) (joints_of closed o ks)) 0

-- how many vertices it has
unfoldable pub shape_count : Shape → ℕ
shape_count nothing = 0
shape_count (empty_cap p) = 4
shape_count (along js) = vertex_count js
shape_count (round_cap o p) = round_cap_size o
shape_count (round_along closed o p q ks) = let js = joints_of closed o (p ∷ q ∷ ks) in vertex_count js + added_of closed (round_of o) js

-- a round one as a piece, where its vertices are numbered from base
abbrev pub cap_piece : Stroke → VertexId → Endpoint → Piece
cap_piece o base p = round_cap_piece (level_of o) base p o.half_width

-- the number that a mesh's first vertex has; which it is plays no part in the vertices themselves
abbrev pub zeroth : VertexId
zeroth = record { 0 = 0 }

-- its vertices. "Its advancement is 0": an empty cap's
unfoldable pub shape_vertices : Stroke → Shape → List Vertex
shape_vertices o nothing = []
shape_vertices o (empty_cap p) = cap_vertices_of p o.half_width (f32 0)
shape_vertices o (along js) = vertices_of js
shape_vertices o (round_cap s p) = (cap_piece s zeroth p).vertices
shape_vertices o (round_along closed s p q ks) = (round_piece closed s (round_of s) zeroth (p ∷ q ∷ ks)).vertices

-- its triangles, where its vertices are numbered from base
unfoldable pub shape_triangles : Bool → ℕ → Shape → List Tri
shape_triangles closed base nothing = []
shape_triangles closed base (empty_cap p) = record { a = base; b = base + 1; c = base + 2 } ∷ record { a = base; b = base + 2; c = base + 3 } ∷ []
shape_triangles closed base (along js) = triangles_of closed base js
shape_triangles closed base (round_cap s p) = (cap_piece s (record { 0 = base }) p).triangles
shape_triangles closed base (round_along c s p q ks) = (round_piece c s (round_of s) (record { 0 = base }) (p ∷ q ∷ ks)).triangles

-- the same as a piece
abbrev pub shape_piece : Stroke → Bool → VertexId → Shape → Piece
shape_piece o closed base s = record { vertices = shape_vertices o s; triangles = shape_triangles closed base.0 s }

-- what a pass needs that draws it at the start of the lists, or only counts it, and what it does
abbrev pub DrawFits : Pass → Bool → VertexId → Shape → Lists → Type 0
DrawFits pass closed base s l = Fits pass.write (from base) (shape_piece pass.stroke closed base s) l

abbrev pub Draws : Pass → Bool → VertexId → Shape → Lists → Lists → Place → Type 0
Draws pass closed base s l l' k = Passes pass.write (from base) (shape_piece pass.stroke closed base s) l l' k
