-- Demand 3: every triangle of a run but the first shares exactly two vertices with the one before. The plan: a triangle and the one that a fresh move makes behind it (`shares`); so on for all moves. Assumes nothing.
use Prim.Native.Nat.{ℕ, ◌+◌}
use mathlib.Core.Path.{◌≡◌}
use mathlib.Core.Bool.{Bool, true, false, cond}
use mathlib.Core.List.{List, [], ◌∷◌, ◌++◌}
use Rattle.endpoint.specs.declared.EndpointData.{EndpointData}
use Rattle.triangles.specs.Facts.{shared, Chain, Linked}
use Rattle.triangles.proofs.Having.{in_a_lem, in_b_lem, in_c_lem, in_none}
use Rattle.strip.specs.Joint.{joint_count}
use Rattle.strip.specs.Triangle.{triangles_of}
use Rattle.strip.proofs.Facts.Ladder.{Move, to, ladder, before_n, inner}
use Rattle.strip.proofs.Facts.Moves.{moves_of, home, open_moves, closed_moves}
use Rattle.strip.proofs.Facts.Fresh.{New, Fresh, open_fresh, closed_fresh}

-- after a move to x the next triangle, which a fresh move to y makes, keeps x and the vertex that was not replaced
shares : (s : Bool) (n p x y : ℕ) → New (cond s p n) (cond s n x) (cond s x p) y → shared (record { a = n; b = p; c = x }) (record { a = cond s n x; b = cond s x p; c = y }) ≡ 2
unfolding shared
shares true n p x y w = rw (in_a_lem p x n, in_c_lem n p x, in_none n p x y w.not_n w.not_r w.not_p)
shares false n p x y w = rw (in_c_lem n p x, in_b_lem n x p, in_none n p x y w.not_r w.not_p w.not_n)

chains : (s : Bool) (n p x : ℕ) (ms : List Move) → Fresh (cond s p n) (cond s n x) (cond s x p) ms → Chain (record { a = n; b = p; c = x }) (ladder (cond s n x) (cond s x p) ms)
unfolding ladder
chains s n p x [] f = tt
chains s n p x (to u y ∷ ms) f = (shares s n p x y f.0, chains u (cond s n x) (cond s x p) y ms f.1)

linked : (r n p : ℕ) (ms : List Move) → Fresh r n p ms → Linked (ladder n p ms)
unfolding ladder
linked r n p [] f = tt
linked r n p (to s x ∷ ms) f = chains s n p x ms f.1

pub open_linked : (base : ℕ) (j : EndpointData) (js : List EndpointData) → Linked (triangles_of false base (j ∷ js))
open_linked base j js = rw (open_moves base j js) (linked base (before_n base j) base (inner base j ++ moves_of (base + joint_count j) js) (open_fresh base j js))

pub closed_linked : (base : ℕ) (j i : EndpointData) (js : List EndpointData) → Linked (triangles_of true base (j ∷ i ∷ js))
closed_linked base j i js = rw (closed_moves base j i js) (linked base (before_n base j) base (inner base j ++ (moves_of (base + joint_count j) (i ∷ js) ++ home base j)) (closed_fresh base j i js))
