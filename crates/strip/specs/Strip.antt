-- A run joint by joint: the state, a step of it, and what its writers need and do. Assumes nothing.
use Rattle.std.specs.Prelude.{ℕ, ◌+◌, ◌-◌, ◌≤◌, ◌<◌, ◌≡◌, Bool, true, false, cond, List, [], ◌∷◌, ◌++◌, ◌≢◌}
use Rattle.endpoint.specs.Endpoint.{id_limit}
use Rattle.endpoint.specs.declared.EndpointData.{EndpointData}
use Rattle.endpoint.specs.declared.VertexId.{VertexId}
use Rattle.lists.specs.All.{All}
use Rattle.pieces.specs.Piece.{next_vertex, Piece, Lists, from, behind, Fits, Lays}
use Rattle.triangles.specs.Tri.{Tri}
use Rattle.strip.specs.declared.Strip.{Strip}
use Rattle.strip.specs.declared.section.Section.{Section}
use Rattle.strip.specs.Joint.{joint_vertices_of, vertices_of}
use Rattle.strip.specs.Section.{section_of, before_of, after_of}
use Rattle.strip.specs.Triangle.{past}

-- "Vertex numbers go on over all runs": a run starts where the last ended
abbrev pub start_of : VertexId → Strip
start_of base = record { place = from base; begun = false; first = section_of 0 0; last = section_of 0 0 }

-- the number of the next vertex
abbrev pub next_of : Strip → ℕ
next_of s = next_vertex s.place

-- the last section, which is the one before the next joint where the run has not begun
abbrev pub last_of : Strip → EndpointData → Section
last_of s j = cond s.begun s.last (before_of (next_of s) j)

-- the first section likewise
abbrev pub first_of : Strip → EndpointData → Section
first_of s j = cond s.begun s.first (before_of (next_of s) j)

-- one joint's triangles
unfoldable pub step_triangles : Strip → EndpointData → List Tri
step_triangles s j = past (last_of s j) (before_of (next_of s) j) (after_of (next_of s) j)

-- what one joint more brings
abbrev pub step_piece : Strip → EndpointData → Piece
step_piece s j = record { vertices = joint_vertices_of j; triangles = step_triangles s j }

-- the state after it
unfoldable pub step_of : Strip → EndpointData → Strip
step_of s j = record {
  place = behind s.place (step_piece s j);
  begun = true;
  first = first_of s j;
  last = after_of (next_of s) j;
}

-- The same, counted: each vertex of a joint brings a triangle, but for the first two of a run (proofs/Counting.antt). p and n are the vertices of its sides.
unfoldable pub stepped_of : Strip → ℕ → ℕ → Strip
stepped_of s p n = record {
  place = record { base = s.place.base; vertices = s.place.vertices + (p + n); triangles = cond s.begun (s.place.triangles + (p + n)) (s.place.triangles + (p + n) - 2) };
  begun = true;
  first = cond s.begun s.first (section_of (next_of s + p) (next_of s));
  last = section_of (next_of s + (p + n - 1)) (next_of s + (p - 1));
}

-- the state after the joints js
unfoldable pub steps_of : Strip → List EndpointData → Strip
steps_of s [] = s
steps_of s (j ∷ js) = steps_of (step_of s j) js

-- the triangles of the joints js, from the state s on
unfoldable pub triangles_from : Strip → List EndpointData → List Tri
triangles_from s [] = []
triangles_from s (j ∷ js) = step_triangles s j ++ triangles_from (step_of s j) js

-- what they bring
abbrev pub piece_of : Strip → List EndpointData → Piece
piece_of s js = record { vertices = vertices_of js; triangles = triangles_from s js }

-- the vertices of the last section are two, and come before the next
pub record Behind (s : Strip) : Type 0 where
  pub negative : s.last.negative.0 < next_of s
  pub positive : s.last.positive.0 < next_of s
  pub apart : s.last.negative.0 ≢ s.last.positive.0

-- so it is of a state that steps came to
pub record Sound (s : Strip) : Type 0 where
  pub behind : s.begun ≡ true → Behind s

-- what a step by p and n vertices needs: a u32 holds the numbers
pub record StepFits (s : Strip) (p n : ℕ) : Type 0 where
  pub positive : (1 ≤ p) × (p ≤ 2)
  pub negative : (1 ≤ n) × (n ≤ 2)
  pub numbers : next_of s + (p + n) < id_limit
  pub faces : s.place.triangles < id_limit

-- what a pass over the joints js needs
pub record StripFits (write : Bool) (s : Strip) (js : List EndpointData) (l : Lists) : Type 0 where
  pub sound : Sound s
  pub numbered : All (λ (j : EndpointData). j.id.0 < id_limit) js
  pub fits : Fits write s.place (piece_of s js) l

-- what it does, from the state s to s': it counts them and, where it writes, writes them
pub record StripPasses (write : Bool) (js : List EndpointData) (s : Strip) (l l' : Lists) (s' : Strip) : Type 0 where
  pub state : s' ≡ steps_of s js
  pub lays : Lays write s.place (piece_of s js) l l'
