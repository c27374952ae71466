-- Each move of a run is to a vertex that the triangle before does not have: it differs from the section's two and from the one just replaced. The plan: from what
-- is known of the vertices' numbers, within a joint (`fresh_sides`), over a joint, over all joints and then home (`home_fresh`) or nowhere. Assumes nothing.
use Prim.Native.Nat.{ℕ, ◌+◌, ◌-◌, ◌<◌, ◌≤◌}
use mathlib.Core.Path.{◌≡◌}
use mathlib.Core.Bool.{cond}
use mathlib.Core.List.{List, [], ◌∷◌, ◌++◌, append_assoc, append-nil}
use mathlib.Core.Logic.{◌≢◌}
use native.Mathlib.Omega.{arith}
use Rattle.endpoint.specs.Endpoint.{side_count_of}
use Rattle.endpoint.specs.declared.EndpointData.{EndpointData}
use Rattle.endpoint.specs.declared.SidePoints.{SidePoints}
use Rattle.endpoint.specs.declared.SidePoints.TheVariants.{Single, Pair}
use Rattle.triangles.specs.Facts.{In}
use Rattle.strip.specs.Joint.{joint_count}
use Rattle.strip.proofs.Joints.{joint_few}
use Rattle.strip.proofs.Facts.Ladder.{Move, to, to_p, to_n, before_n, after_n, after_p, in_p, in_n, inner}
use Rattle.strip.proofs.Facts.Moves.{moves_of, home, moves_cons}

-- r is the vertex replaced by the move before, or the section's positive one where there was none
pub record New (r n p x : ℕ) : Type 0 where
  pub not_r : x ≢ r
  pub not_n : x ≢ n
  pub not_p : x ≢ p

abbrev pub Fresh : ℕ → ℕ → ℕ → List Move → Type 0
Fresh r n p [] = Unit
Fresh r n p (to s x ∷ ms) = New r n p x × Fresh (cond s p n) (cond s n x) (cond s x p) ms

-- within a joint, and then the moves ms, which are fresh from the section after it
fresh_sides : (lo base : ℕ) (s t : SidePoints) (r : ℕ) (ms : List Move) → In lo (base + 1) r
    → ((r' n p : ℕ) → In lo (base + (side_count_of s + side_count_of t)) r' → (n ≡ base + side_count_of s + side_count_of t - 1) × (p ≡ base + side_count_of s - 1) → Fresh r' n p ms)
    → Fresh r (base + side_count_of s) base ((in_p base s ++ in_n (base + side_count_of s) t) ++ ms)
unfolding in_p in_n
fresh_sides lo base (Single a b) (Single c d) r ms i on = on r (base + 1) base (omega arith) (omega arith)
fresh_sides lo base (Single a b) (Pair c d e f) r ms i on = (omega arith, on (base + 1) (base + 1 + 1) base (omega arith) (omega arith))
fresh_sides lo base (Pair a b c d) (Single e f) r ms i on = (omega arith, on base (base + 2) (base + 1) (omega arith) (omega arith))
fresh_sides lo base (Pair a b c d) (Pair e f g j) r ms i on = (omega arith, (omega arith, on (base + 2) (base + 2 + 1) (base + 1) (omega arith) (omega arith)))

-- the same from a section of smaller numbers on
fresh_joint : (lo base : ℕ) (j : EndpointData) (r n p : ℕ) (ms : List Move) → (r < base) × (n < base) × (p < base) × (n ≢ p) × (lo ≤ n)
    → ((r' n' p' : ℕ) → In lo (base + joint_count j) r' → (n' ≡ after_n base j) × (p' ≡ after_p base j) → Fresh r' n' p' ms)
    → Fresh r n p (to_p base ∷ to_n (before_n base j) ∷ inner base j ++ ms)
unfolding inner
fresh_joint lo base j r n p ms f on = (omega arith, (omega (arith, joint_few j), fresh_sides lo base j.positive j.negative n ms (omega arith) on))

-- the joints js, and then the moves zs; what was replaced is lo at least, and the section's numbers l at least
fresh_moves : (lo l : ℕ) (zs : List Move) → lo ≤ l → ((r n p : ℕ) → lo ≤ r → (n ≢ p) × (l ≤ n) × (l ≤ p) → Fresh r n p zs)
    → (js : List EndpointData) (base r n p : ℕ) → In lo base r → (n < base) × (p < base) → (n ≢ p) × (l ≤ n) × (l ≤ p) → Fresh r n p (moves_of base js ++ zs)
unfolding moves_of
fresh_moves lo l zs b last [] base r n p i f g = last r n p i.0 g
fresh_moves lo l zs b last (j ∷ js) base r n p i f g =
    let few = joint_few j in
    rw (append_assoc (inner base j) (moves_of (base + joint_count j) js) zs)
    (fresh_joint lo base j r n p (moves_of (base + joint_count j) js ++ zs) (omega arith)
    (λ r' n' p' i' x. fresh_moves lo l zs b last js (base + joint_count j) r' n' p' i' (omega arith) (omega arith)))

pub open_fresh : (base : ℕ) (j : EndpointData) (js : List EndpointData) → Fresh base (before_n base j) base (inner base j ++ moves_of (base + joint_count j) js)
unfolding inner
open_fresh base j js =
    let few = joint_few j in
    fresh_sides 0 base j.positive j.negative base (moves_of (base + joint_count j) js) (omega arith)
    (λ r n p i x. rw append-nil at (fresh_moves 0 0 [] (omega arith) (λ r' n' p' i' d. tt) js (base + joint_count j) r n p i (omega arith) (omega arith)))

-- the way home is to base and then to the first joint's negative vertex, which are below all that was replaced and all of the other joints' sections
home_fresh : (base m : ℕ) (j : EndpointData) → before_n base j < m → (r n p : ℕ) → base + 1 ≤ r → (n ≢ p) × (m ≤ n) × (m ≤ p) → Fresh r n p (home base j)
home_fresh base m j b r n p i d = (omega arith, (omega (arith, joint_few j), tt))

pub closed_fresh : (base : ℕ) (j i : EndpointData) (js : List EndpointData) → Fresh base (before_n base j) base (inner base j ++ (moves_of (base + joint_count j) (i ∷ js) ++ home base j))
unfolding inner
closed_fresh base j i js =
    let few = joint_few j in
    let more = joint_few i in
    let m = base + joint_count j in
    fresh_sides 0 base j.positive j.negative base (moves_of m (i ∷ js) ++ home base j) (omega arith)
    (λ r n p a x. rw (moves_cons m i js (home base j))
    (fresh_joint (base + 1) m i r n p (moves_of (m + joint_count i) js ++ home base j) (omega arith)
    (λ r' n' p' a' x'. fresh_moves (base + 1) m (home base j) (omega arith) (home_fresh base m j (omega arith)) js (m + joint_count i) r' n' p' a' (omega arith) (omega arith))))
