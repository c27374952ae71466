-- W-210: "Writing with exactly the measured room is never refused for room; with one place less in any list that needs one, always." That it holds is `measured_room` of
-- proofs/Room.antt. Assumes nothing.
use Rattle.std.specs.Prelude.{ℕ, ◌*◌, ◌≤◌, ◌<◌, ◌≡◌, List, Float, length}
use Rattle.refusals.specs.Numbers.{number_of, accepted, vertex_room, triangle_room}
use Rattle.options.specs.declared.Options.{Options}
use Rattle.pieces.specs.Piece.{Lists}
use Rattle.mesh.specs.Answer.{with_counts}
use Rattle.mesh.specs.Mesh.{refused, outcome_of}

-- so many vertices and triangles are measured: what the mesh call answers to lists of any lengths, and not only to multiples of 5 and 3
pub record MeasuredRoom (verbs : List ℕ) (coords : List Float) (options : Options) (ds : List Float) (n m : ℕ) (l : Lists) : Type 0 where
  pub exact : length l.vertices ≡ 5 * n → length l.sources ≡ n → length l.triangles ≡ 3 * m → (outcome_of verbs coords options ds l).answer ≡ with_counts (number_of accepted) n m
  pub enough : 5 * n ≤ length l.vertices → n ≤ length l.sources → 3 * m ≤ length l.triangles → (outcome_of verbs coords options ds l).answer ≡ with_counts (number_of accepted) n m
  pub fewer_vertices : length l.vertices < 5 * n → outcome_of verbs coords options ds l ≡ refused l (with_counts (number_of vertex_room) n m)
  pub fewer_sources : length l.sources < n → outcome_of verbs coords options ds l ≡ refused l (with_counts (number_of vertex_room) n m)
  pub fewer_triangles : 5 * n ≤ length l.vertices → n ≤ length l.sources → length l.triangles < 3 * m → outcome_of verbs coords options ds l ≡ refused l (with_counts (number_of triangle_room) n m)
