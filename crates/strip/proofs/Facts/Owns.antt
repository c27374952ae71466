-- Demand 3: each triangle of a run names three different vertices of the run. The plan: the moves are to vertices of the run (`Within`), a joint's own, the way home
-- and those of all joints; with `Fresh` each makes a triangle of three of them (`own`). Assumes nothing.
use Prim.Native.Nat.{ℕ, ◌+◌, ◌≤◌}
use mathlib.Core.Bool.{true, false}
use mathlib.Core.List.{List, [], ◌∷◌, ◌++◌}
use mathlib.Core.Logic.{◌≢◌}
use native.Mathlib.Omega.{arith}
use Rattle.endpoint.specs.Endpoint.{side_count_of}
use Rattle.endpoint.specs.declared.EndpointData.{EndpointData}
use Rattle.endpoint.specs.declared.SidePoints.{SidePoints}
use Rattle.endpoint.specs.declared.SidePoints.TheVariants.{Single, Pair}
use Rattle.triangles.specs.Facts.{In, AllOwn}
use Rattle.strip.specs.Joint.{joint_count, vertex_count}
use Rattle.strip.specs.Triangle.{triangles_of}
use Rattle.strip.proofs.Joints.{joint_few}
use Rattle.strip.proofs.Facts.Ladder.{Move, to, ladder, before_n, in_p, in_n, inner}
use Rattle.strip.proofs.Facts.Moves.{moves_of, home, open_moves, closed_moves}
use Rattle.strip.proofs.Facts.Fresh.{Fresh, open_fresh, closed_fresh}

-- the moves are to vertices of the run
abbrev Within : ℕ → ℕ → List Move → Type 0
Within lo hi [] = Unit
Within lo hi (to s x ∷ ms) = In lo hi x × Within lo hi ms

within_append : (lo hi : ℕ) (xs ys : List Move) → Within lo hi xs → Within lo hi ys → Within lo hi (xs ++ ys)
within_append lo hi [] ys f g = g
within_append lo hi (to s x ∷ xs) ys f g = (f.0, within_append lo hi xs ys f.1 g)

within_inner : (lo hi base : ℕ) (j : EndpointData) → lo ≤ base → base + joint_count j ≤ hi → Within lo hi (inner base j)
unfolding inner in_p in_n
within_inner lo hi base j f g = go j.positive j.negative g
  where
    go : (s t : SidePoints) → base + (side_count_of s + side_count_of t) ≤ hi → Within lo hi (in_p base s ++ in_n (base + side_count_of s) t)
    go (Single a b) (Single c d) h = tt
    go (Single a b) (Pair c d e z) h = (omega arith, tt)
    go (Pair a b c d) (Single e z) h = (omega arith, tt)
    go (Pair a b c d) (Pair e z x y) h = (omega arith, (omega arith, tt))

within_home : (lo hi base : ℕ) (j : EndpointData) → lo ≤ base → base + joint_count j ≤ hi → Within lo hi (home base j)
within_home lo hi base j f g = (omega (arith, joint_few j), (omega (arith, joint_few j), tt))

within_moves : (lo hi base : ℕ) (js : List EndpointData) → lo ≤ base → base + vertex_count js ≤ hi → Within lo hi (moves_of base js)
unfolding moves_of vertex_count
within_moves lo hi base [] f g = tt
within_moves lo hi base (j ∷ js) f g =
    let m = base + joint_count j in
    within_append lo hi (home base j) (inner base j ++ moves_of m js) (within_home lo hi base j f (omega arith))
    (within_append lo hi (inner base j) (moves_of m js) (within_inner lo hi base j f (omega arith)) (within_moves lo hi m js (omega arith) (omega arith)))

own : (lo hi r n p : ℕ) (ms : List Move) → (n ≢ p) × In lo hi n × In lo hi p → Fresh r n p ms → Within lo hi ms → AllOwn lo hi (ladder n p ms)
unfolding ladder
own lo hi r n p [] d f w = tt
own lo hi r n p (to true x ∷ ms) d f w = (omega arith, own lo hi p n x ms (omega arith) f.1 w.1)
own lo hi r n p (to false x ∷ ms) d f w = (omega arith, own lo hi n x p ms (omega arith) f.1 w.1)

-- from the first joint's section on, whatever the other moves are
own_run : (base : ℕ) (j : EndpointData) (js : List EndpointData) (ms : List Move) → Fresh base (before_n base j) base (inner base j ++ ms) → Within base (base + vertex_count (j ∷ js)) ms
    → AllOwn base (base + vertex_count (j ∷ js)) (ladder (before_n base j) base (inner base j ++ ms))
unfolding vertex_count
own_run base j js ms f w =
    let few = joint_few j in
    let hi = base + vertex_count (j ∷ js) in
    own base hi base (before_n base j) base (inner base j ++ ms) (omega arith) f (within_append base hi (inner base j) ms (within_inner base hi base j (omega arith) (omega arith)) w)

pub open_own : (base : ℕ) (j : EndpointData) (js : List EndpointData) → AllOwn base (base + vertex_count (j ∷ js)) (triangles_of false base (j ∷ js))
unfolding vertex_count
open_own base j js =
    let m = base + joint_count j in
    rw (open_moves base j js) (own_run base j js (moves_of m js) (open_fresh base j js) (within_moves base (base + vertex_count (j ∷ js)) m js (omega arith) (omega arith)))

pub closed_own : (base : ℕ) (j i : EndpointData) (js : List EndpointData) → AllOwn base (base + vertex_count (j ∷ i ∷ js)) (triangles_of true base (j ∷ i ∷ js))
unfolding vertex_count
closed_own base j i js =
    let m = base + joint_count j in
    let hi = base + vertex_count (j ∷ i ∷ js) in
    rw (closed_moves base j i js)
    (own_run base j (i ∷ js) (moves_of m (i ∷ js) ++ home base j) (closed_fresh base j i js)
    (within_append base hi (moves_of m (i ∷ js)) (home base j) (within_moves base hi m (i ∷ js) (omega arith) (omega arith)) (within_home base hi base j (omega arith) (omega arith))))
