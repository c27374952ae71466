-- The mesh that the mesh call leaves: both lists, cut to the counts that it answers. Assumes nothing.
use Rattle.std.specs.Prelude.{ℕ, ◌*◌, List, Float, take}
use Rattle.mesh.specs.Mesh.{Outcome}

abbrev pub mesh_floats : Outcome → List Float
mesh_floats out = take (5 * out.answer.vertices) out.lists.vertices

abbrev pub mesh_numbers : Outcome → List ℕ
mesh_numbers out = take (3 * out.answer.triangles) out.lists.triangles
