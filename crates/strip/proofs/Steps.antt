-- Laws of the state's steps, in this order: joints one behind the other, where a step comes to, and that a state's last section lies behind it (`Sound`),
-- from the start of a run over all its joints. Assumes nothing.
use Prim.Native.Nat.{◌+◌}
use mathlib.Core.Path.{◌≡◌, refl, sym, ◌∙◌}
use mathlib.Core.Bool.{true≢false}
use mathlib.Core.List.{List, [], ◌∷◌, ◌++◌, append_assoc}
use native.Mathlib.Omega.{arith}
use Rattle.endpoint.specs.declared.EndpointData.{EndpointData}
use Rattle.endpoint.specs.declared.VertexId.{VertexId}
use Rattle.strip.specs.declared.Strip.{Strip}
use Rattle.strip.specs.Joint.{joint_count, vertices_of}
use Rattle.strip.specs.Strip.{start_of, next_of, step_piece, step_of, steps_of, triangles_from, piece_of, Behind, Sound}
use Rattle.strip.proofs.Joints.{joint_few, length_joint, vertices_append}
use Rattle.pieces.specs.Piece.{joined, behind}
use Rattle.pieces.proofs.Pieces.{joined_none, behind_none, behind_joined}

pub triangles_append : (s : Strip) (xs ys : List EndpointData) → triangles_from s (xs ++ ys) ≡ triangles_from s xs ++ triangles_from (steps_of s xs) ys
unfolding triangles_from steps_of
triangles_append s [] ys = refl
triangles_append s (x ∷ xs) ys = rw (triangles_append (step_of s x) xs ys, append_assoc)

pub steps_append : (s : Strip) (xs ys : List EndpointData) → steps_of s (xs ++ ys) ≡ steps_of (steps_of s xs) ys
unfolding steps_of
steps_append s [] ys = refl
steps_append s (x ∷ xs) ys = steps_append (step_of s x) xs ys

pub pieces_append : (s : Strip) (xs ys : List EndpointData) → piece_of s (xs ++ ys) ≡ joined (piece_of s xs) (piece_of (steps_of s xs) ys)
pieces_append s xs ys = rw (vertices_append xs ys, triangles_append s xs ys)

pub piece_one : (s : Strip) (j : EndpointData) → piece_of s (j ∷ []) ≡ step_piece s j
unfolding vertices_of triangles_from
piece_one s j = joined_none (step_piece s j)

pub steps_place : (s : Strip) (xs : List EndpointData) → (steps_of s xs).place ≡ behind s.place (piece_of s xs)
unfolding steps_of step_of vertices_of triangles_from
steps_place s [] = sym (behind_none s.place)
steps_place s (x ∷ xs) = steps_place (step_of s x) xs ∙ sym (behind_joined s.place (step_piece s x) (piece_of (step_of s x) xs))

pub step_next : (s : Strip) (j : EndpointData) → next_of (step_of s j) ≡ next_of s + joint_count j
unfolding step_of
step_next s j = omega (arith, length_joint j)

behind_step : (s : Strip) (j : EndpointData) → Behind (step_of s j)
unfolding step_of
behind_step s j = omega (arith, length_joint j, joint_few j)

pub sound_start : (base : VertexId) → Sound (start_of base)
sound_start base = record { behind = λ b. absurd (true≢false (sym b)) }

pub sound_steps : (s : Strip) (xs : List EndpointData) → Sound s → Sound (steps_of s xs)
unfolding steps_of
sound_steps s [] o = o
sound_steps s (x ∷ xs) o = sound_steps (step_of s x) xs (record { behind = λ b. behind_step s x })
