-- Demand 3's counts: each move is a triangle and names one vertex more. Assumes nothing.
use Prim.Native.Nat.{ℕ, ◌+◌, ◌*◌}
use mathlib.Core.Path.{◌≡◌, refl}
use mathlib.Core.Bool.{true, false}
use mathlib.Core.List.{List, [], ◌∷◌}
use native.Mathlib.Omega.{arith}
use lib.ListN.{length, length-append}
use Rattle.endpoint.specs.declared.EndpointData.{EndpointData}
use Rattle.strip.specs.Joint.{joint_count, vertex_count, pair_sides}
use Rattle.strip.specs.Triangle.{triangles_of}
use Rattle.strip.proofs.Joints.{joint_few, count_more}
use Rattle.strip.proofs.Facts.Ladder.{length_ladder, length_inner}
use Rattle.strip.proofs.Facts.Moves.{moves_of, open_moves, closed_moves}

-- "2n+d vertices", of n joints
pub vertices_are : (js : List EndpointData) → vertex_count js ≡ 2 * length js + pair_sides js
unfolding vertex_count pair_sides
vertices_are [] = refl
vertices_are (j ∷ js) = omega (arith, joint_few j, vertices_are js)

length_moves : (base : ℕ) (js : List EndpointData) → length (moves_of base js) ≡ vertex_count js
unfolding moves_of vertex_count
length_moves base [] = refl
length_moves base (j ∷ js) = simp length-append (omega (arith, length_inner base j, length_moves (base + joint_count j) js))

-- an open run: "2(n-1)+d triangles", two fewer than its vertices
pub open_count : (base : ℕ) (j : EndpointData) (js : List EndpointData) → 2 + length (triangles_of false base (j ∷ js)) ≡ vertex_count (j ∷ js)
open_count base j js =
    rw (open_moves base j js, length_ladder, length-append) (omega (arith, count_more j js, length_inner base j, length_moves (base + joint_count j) js))

-- a closed run: "2n+d and 2n+d"
pub closed_count : (base : ℕ) (j i : EndpointData) (js : List EndpointData) → length (triangles_of true base (j ∷ i ∷ js)) ≡ vertex_count (j ∷ i ∷ js)
closed_count base j i js =
    rw (closed_moves base j i js, length_ladder, length-append, length-append) (omega (arith, count_more j (i ∷ js), length_inner base j, length_moves (base + joint_count j) (i ∷ js)))
