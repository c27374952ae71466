-- The mesh call's answer. Assumes nothing.
use Rattle.std.specs.Prelude.{ℕ, ◌*◌, ◌^◌, ◌≤◌, Bool, cond, Result, Ok, Err, ltb, eqb}
use Rattle.refusals.specs.Numbers.{number_of, verdict_of, accepted, vertex_room, triangle_room}
use Rattle.mesh.specs.declared.answer.MeshSize.{MeshSize}
use Rattle.mesh.specs.declared.answer.MeshError.{MeshError}
use Rattle.mesh.specs.declared.answer.MeshError.TheVariants.{Refused, VertexRoom, TriangleRoom}
use Rattle.mesh.specs.declared.answer.MeshAnswer.{MeshAnswer}
use Rattle.mesh.specs.declared.answer.Rooms.{Rooms}

-- "0, 6 and 7 carry both counts; the others carry zero."
abbrev pub with_counts : ℕ → ℕ → ℕ → MeshAnswer
with_counts number n m = record { number = number; place = 0; vertices = n; triangles = m }

abbrev pub with_place : ℕ → ℕ → MeshAnswer
with_place number place = record { number = number; place = place; vertices = 0; triangles = 0 }

-- what each case of `tessellate`'s answer stands for: the number, the place and both counts
abbrev pub mesh_answer_of : Result MeshSize MeshError → MeshAnswer
mesh_answer_of (Ok size) = with_counts (number_of accepted) size.vertices size.triangles
mesh_answer_of (Err (Refused r)) = let a = verdict_of r in with_place a.number a.place
mesh_answer_of (Err (VertexRoom size)) = with_counts (number_of vertex_room) size.vertices size.triangles
mesh_answer_of (Err (TriangleRoom size)) = with_counts (number_of triangle_room) size.vertices size.triangles

-- "0: accepted"
abbrev pub is_mesh : MeshAnswer → Bool
is_mesh a = eqb a.number (number_of accepted)

-- of two rooms the smaller
abbrev pub smaller_of : ℕ → ℕ → ℕ
smaller_of a b = cond (ltb b a) b a

-- Refusals 6 and 7, in their order, of n vertices and m triangles: "too few vertex places", "too few triangle places"
abbrev pub roomed_of : ℕ → ℕ → ℕ → ℕ → MeshAnswer
roomed_of n m vertex_places triangle_places =
    cond (ltb vertex_places n) (with_counts (number_of vertex_room) n m)
    (cond (ltb triangle_places m) (with_counts (number_of triangle_room) n m) (with_counts (number_of accepted) n m))

-- Room for the most that so many coordinates can need, two of them to a point, where arcs are so many levels deep (`runs_bounded` of runs)
pub record Plenty (level : ℕ) (r : Rooms) (coords : ℕ) : Type 0 where
  pub vertices : 2 * 2 ^ level * coords ≤ r.vertices
  pub triangles : 2 * 2 ^ level * coords ≤ r.triangles
