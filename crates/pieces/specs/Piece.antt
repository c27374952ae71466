-- What a writer puts where: pieces of a mesh, the lists that are lent, and what a writer of a piece needs and does. One vocabulary for every layer: a
-- list more is a field of `Lists`, a line of `laid`, of `Fits` and of the laws in proofs/Pieces.antt. Assumes nothing.
use Rattle.std.specs.Prelude.{ℕ, ◌+◌, ◌*◌, ◌≤◌, ◌<◌, ◌≡◌, Bool, true, List, [], ◌∷◌, ◌++◌, Float, length}
use Rattle.endpoint.specs.Endpoint.{id_limit}
use Rattle.endpoint.specs.declared.VertexId.{VertexId}
use Rattle.lists.specs.Over.{put_at, flat}
use Rattle.triangles.specs.Tri.{Tri, numbers_of}
use Rattle.pieces.specs.declared.Place.{Place}

-- "five f32 to a vertex (x, y, normal x, normal y, advancement)", and W-206: "Every vertex gains a record in a further lent u32 list"
pub record Vertex : Type 0 where
  pub x : Float
  pub y : Float
  pub normal_x : Float
  pub normal_y : Float
  pub advancement : Float
  pub source : ℕ

abbrev pub floats_of : Vertex → List Float
floats_of v = v.x ∷ v.y ∷ v.normal_x ∷ v.normal_y ∷ v.advancement ∷ []

abbrev pub sources_of : Vertex → List ℕ
sources_of v = v.source ∷ []

abbrev pub flat_v : List Vertex → List Float
flat_v = flat floats_of

abbrev pub flat_s : List Vertex → List ℕ
flat_s = flat sources_of

abbrev pub flat_t : List Tri → List ℕ
flat_t = flat numbers_of

-- a piece of a mesh
pub record Piece : Type 0 where
  pub vertices : List Vertex
  pub triangles : List Tri

abbrev pub none : Piece
none = record { vertices = []; triangles = [] }

-- one piece behind the other
abbrev pub joined : Piece → Piece → Piece
joined p q = record { vertices = p.vertices ++ q.vertices; triangles = p.triangles ++ q.triangles }

-- Behind a piece as many more stand before.
abbrev pub behind : Place → Piece → Place
behind k p = record { base = k.base; vertices = k.vertices + length p.vertices; triangles = k.triangles + length p.triangles }

-- the number of the next vertex
abbrev pub next_vertex : Place → ℕ
next_vertex k = k.base.0 + k.vertices

-- the start of the lists that are lent, whose first vertex has the number base
abbrev pub from : VertexId → Place
from base = record { base = base; vertices = 0; triangles = 0 }

-- Where lists are lent anew, from a place on: their first vertex is that place's next.
abbrev pub anew : Place → Place
anew k = from (record { 0 = next_vertex k })

-- the lists that are lent
pub record Lists : Type 0 where
  pub vertices : List Float
  pub sources : List ℕ
  pub triangles : List ℕ

abbrev pub lent : List Float → List ℕ → List ℕ → Lists
lent v s t = record { vertices = v; sources = s; triangles = t }

-- the lists once a piece is written at a place; nothing else is changed
abbrev pub laid : Place → Piece → Lists → Lists
laid k p l = record {
  vertices = put_at (5 * k.vertices) (flat_v p.vertices) l.vertices;
  sources = put_at k.vertices (flat_s p.vertices) l.sources;
  triangles = put_at (3 * k.triangles) (flat_t p.triangles) l.triangles;
}

-- What a pass needs that writes a piece at a place, or only counts it: a u32 holds the numbers and, where it writes, there is room.
pub record Fits (write : Bool) (k : Place) (p : Piece) (l : Lists) : Type 0 where
  pub numbers : next_vertex k + length p.vertices < id_limit
  pub faces : k.triangles + length p.triangles < id_limit
  pub vertices : write ≡ true → 5 * (k.vertices + length p.vertices) ≤ length l.vertices
  pub sources : write ≡ true → k.vertices + length p.vertices ≤ length l.sources
  pub triangles : write ≡ true → 3 * (k.triangles + length p.triangles) ≤ length l.triangles

-- where it writes, the piece is there
abbrev pub Lays : Bool → Place → Piece → Lists → Lists → Type 0
Lays write k p l l' = write ≡ true → l' ≡ laid k p l

-- what it does, from the place k to k'
pub record Passes (write : Bool) (k : Place) (p : Piece) (l l' : Lists) (k' : Place) : Type 0 where
  pub place : k' ≡ behind k p
  pub lists : Lays write k p l l'
