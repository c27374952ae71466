-- Laws of a run's vertices and of their count: one vertex or two to a side, joint after joint. Assumes nothing.
use Prim.Native.Nat.{ℕ, ◌+◌, ◌-◌, ◌≤◌}
use mathlib.Core.Path.{◌≡◌, refl}
use mathlib.Core.List.{List, [], ◌∷◌, ◌++◌, append_assoc}
use native.Mathlib.Omega.{arith}
use lib.ListN.{length, length-append}
use Rattle.endpoint.specs.Endpoint.{side_count_of}
use Rattle.endpoint.specs.declared.EndpointData.{EndpointData}
use Rattle.endpoint.specs.declared.Side.TheVariants.{Positive, Negative}
use Rattle.endpoint.specs.declared.SidePoints.{SidePoints}
use Rattle.endpoint.specs.declared.SidePoints.TheVariants.{Single, Pair}
use Rattle.vertices.proofs.Laws.{length_side}
use Rattle.strip.specs.Joint.{joint_count, vertex_count, joint_vertices_of, vertices_of}
use Rattle.strip.specs.Section.{section_of, after_of}

pub side_few : (s : SidePoints) → (1 ≤ side_count_of s) × (side_count_of s ≤ 2)
side_few (Single x y) = (omega arith, omega arith)
side_few (Pair x0 y0 x1 y1) = (omega arith, omega arith)

pub joint_few : (j : EndpointData) → let p = side_count_of j.positive in let n = side_count_of j.negative in (1 ≤ p) × (p ≤ 2) × (1 ≤ n) × (n ≤ 2)
joint_few j = omega (arith, side_few j.positive, side_few j.negative)

-- the section after a joint, by how many vertices its sides have
pub after_counted : (base : ℕ) (j : EndpointData) → let p = side_count_of j.positive in after_of base j ≡ section_of (base + (p + side_count_of j.negative - 1)) (base + (p - 1))
after_counted base j =
    let p = side_count_of j.positive in
    let n = side_count_of j.negative in
    let negative : base + p + n - 1 ≡ base + (p + n - 1) = omega (arith, side_few j.positive) in
    let positive : base + p - 1 ≡ base + (p - 1) = omega (arith, side_few j.positive) in
    rw (negative, positive)

pub length_joint : (j : EndpointData) → length (joint_vertices_of j) ≡ joint_count j
unfolding joint_vertices_of
length_joint j = rw (length-append, length_side j Positive j.positive, length_side j Negative j.negative)

pub length_vertices : (js : List EndpointData) → length (vertices_of js) ≡ vertex_count js
unfolding vertices_of vertex_count
length_vertices [] = refl
length_vertices (j ∷ js) = rw (length-append, length_joint, length_vertices js)

pub vertices_append : (xs ys : List EndpointData) → vertices_of (xs ++ ys) ≡ vertices_of xs ++ vertices_of ys
unfolding vertices_of
vertices_append [] ys = refl
vertices_append (x ∷ xs) ys = rw (vertices_append xs ys, append_assoc)

pub count_more : (j : EndpointData) (js : List EndpointData) → vertex_count (j ∷ js) ≡ joint_count j + vertex_count js
unfolding vertex_count
count_more j js = refl

pub length_more : (j : EndpointData) (js : List EndpointData) → length (vertices_of (j ∷ js)) ≡ joint_count j + length (vertices_of js)
unfolding vertices_of
length_more j js = rw (length-append, length_joint)
