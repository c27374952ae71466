-- Demand 3: every vertex of a run is named by some triangle of it. The plan: each is one that a move goes to (`Goes`), of its joint's own moves, or one of the first
-- section's two; a move's triangle names where it goes, and the first triangle the first section. Assumes nothing.
use Prim.Native.Nat.{ℕ, ◌+◌, ◌<◌, ◌≤◌}
use mathlib.Core.Path.{◌≡◌}
use mathlib.Core.Bool.{Bool, true, false, cond}
use mathlib.Core.List.{List, [], ◌∷◌, ◌++◌}
use mathlib.Core.Logic.{◌≢◌, ◌⊎◌, inl, inr}
use native.Mathlib.Decide.{ℕ_discrete, dec_lt}
use native.Mathlib.Omega.{arith}
use Rattle.endpoint.specs.Endpoint.{side_count_of}
use Rattle.endpoint.specs.declared.EndpointData.{EndpointData}
use Rattle.endpoint.specs.declared.SidePoints.{SidePoints}
use Rattle.endpoint.specs.declared.SidePoints.TheVariants.{Single, Pair}
use Rattle.triangles.specs.Facts.{in_tri, Names, there}
use Rattle.triangles.specs.Facts as facts
use Rattle.strip.specs.Joint.{joint_count, vertex_count}
use Rattle.strip.specs.Triangle.{triangles_of}
use Rattle.strip.proofs.Joints.{count_more}
use Rattle.strip.proofs.Facts.Ladder.{Move, to, to_p, to_n, ladder, before_n, in_p, in_n, inner}
use Rattle.strip.proofs.Facts.Moves.{moves_of, home, open_moves, closed_moves}
use Rattle.triangles.proofs.Having.{in_a_lem, in_b_lem, in_c_lem}

-- some move goes to x
data Goes (x : ℕ) : List Move → Type 0 where
  here : {s : Bool} {y : ℕ} {ms : List Move} → y ≡ x → Goes x (to s y ∷ ms)
  later : {m : Move} {ms : List Move} → Goes x ms → Goes x (m ∷ ms)

-- or each goes elsewhere
abbrev Misses : ℕ → List Move → Type 0
Misses x [] = Unit
Misses x (to s y ∷ ms) = (y ≢ x) × Misses x ms

goes : (x : ℕ) (ms : List Move) → (Misses x ms → ⊥) → Goes x ms
goes x [] f = absurd (f tt)
goes x (to s y ∷ ms) f = go (ℕ_discrete y x) (λ n. goes x ms (λ m. f (n, m)))
  where
    go : Dec (y ≡ x) → (y ≢ x → Goes x ms) → Goes x (to s y ∷ ms)
    go (yes e) on = here e
    go (no n) on = later (on n)

goes_right : (x : ℕ) (xs ys : List Move) → Goes x ys → Goes x (xs ++ ys)
goes_right x [] ys g = g
goes_right x (m ∷ xs) ys g = later (goes_right x xs ys g)

goes_left : (x : ℕ) (xs ys : List Move) → Goes x xs → Goes x (xs ++ ys)
goes_left x [] ys g = elim g [ ]
goes_left x (to s y ∷ xs) ys (here e) = here e
goes_left x (m ∷ xs) ys (later g) = later (goes_left x xs ys g)

-- to a joint's own vertices: those of the section before it, and the others
goes_joint : (base x : ℕ) (j : EndpointData) → base ≤ x → x < base + joint_count j → Goes x (home base j ++ inner base j)
unfolding inner in_p in_n
goes_joint base x j f g = go j.positive j.negative g
  where
    go : (s t : SidePoints) → x < base + (side_count_of s + side_count_of t) → Goes x (to_p base ∷ to_n (base + side_count_of s) ∷ in_p base s ++ in_n (base + side_count_of s) t)
    go (Single a b) (Single c d) h = goes x _ (λ m. omega arith)
    go (Single a b) (Pair c d e z) h = goes x _ (λ m. omega arith)
    go (Pair a b c d) (Single e z) h = goes x _ (λ m. omega arith)
    go (Pair a b c d) (Pair e z u w) h = goes x _ (λ m. omega arith)

goes_moves : (base x : ℕ) (js : List EndpointData) → base ≤ x → x < base + vertex_count js → Goes x (moves_of base js)
unfolding moves_of vertex_count
goes_moves base x [] f g = absurd (omega arith)
goes_moves base x (j ∷ js) f g = go (dec_lt x (base + joint_count j)) (goes_moves (base + joint_count j) x js)
  where
    go : Dec (x < base + joint_count j) → (base + joint_count j ≤ x → x < base + joint_count j + vertex_count js → Goes x (moves_of (base + joint_count j) js))
        → Goes x ((home base j ++ inner base j) ++ moves_of (base + joint_count j) js)
    go (yes h) on = goes_left x (home base j ++ inner base j) (moves_of (base + joint_count j) js) (goes_joint base x j f h)
    go (no h) on = goes_right x (home base j ++ inner base j) (moves_of (base + joint_count j) js) (on (omega arith) (omega arith))

-- where a move goes, its triangle names
names : (x n p : ℕ) (ms : List Move) → Goes x ms → Names x (ladder n p ms)
unfolding ladder
names x n p [] g = elim g [ ]
names x n p (to s y ∷ ms) (here e) = facts.here {t = record { a = n; b = p; c = y }} (rw e (in_c_lem n p x))
names x n p (to s y ∷ ms) (later g) = there (names x (cond s n y) (cond s y p) ms g)

-- the section that a ladder starts from is named by its first triangle
names_start : (x n p y : ℕ) → (n ≡ x) ⊎ (p ≡ x) → in_tri (record { a = n; b = p; c = y }) x ≡ 1
names_start x n p y (inl e) = rw e (in_a_lem p y x)
names_start x n p y (inr e) = rw e (in_b_lem n y x)

names_first : (x n p : ℕ) (xs : List Move) (y : ℕ) (ys : List Move) → (n ≡ x) ⊎ (p ≡ x) → Names x (ladder n p (xs ++ to_p y ∷ ys))
unfolding ladder
names_first x n p [] y ys e = facts.here (names_start x n p y e)
names_first x n p (to s z ∷ xs) y ys e = facts.here (names_start x n p z e)

-- the first joint's vertices, and those of the others
names_run : (base x : ℕ) (j : EndpointData) (y : ℕ) (ys : List Move) → base ≤ x → (base + joint_count j ≤ x → Goes x (to_p y ∷ ys))
    → Names x (ladder (before_n base j) base (inner base j ++ to_p y ∷ ys))
names_run base x j y ys f g = go (dec_lt x (base + joint_count j))
  where
    own : Goes x (home base j ++ inner base j) → Names x (ladder (before_n base j) base (inner base j ++ to_p y ∷ ys))
    own (here e) = names_first x (before_n base j) base (inner base j) y ys (inr e)
    own (later (here e)) = names_first x (before_n base j) base (inner base j) y ys (inl e)
    own (later (later h)) = names x (before_n base j) base (inner base j ++ to_p y ∷ ys) (goes_left x (inner base j) (to_p y ∷ ys) h)

    go : Dec (x < base + joint_count j) → Names x (ladder (before_n base j) base (inner base j ++ to_p y ∷ ys))
    go (no h) = names x (before_n base j) base (inner base j ++ to_p y ∷ ys) (goes_right x (inner base j) (to_p y ∷ ys) (g (omega arith)))
    go (yes h) = own (goes_joint base x j f h)

pub open_named : (base : ℕ) (j i : EndpointData) (js : List EndpointData) (x : ℕ) → base ≤ x → x < base + vertex_count (j ∷ i ∷ js) → Names x (triangles_of false base (j ∷ i ∷ js))
unfolding moves_of
open_named base j i js x f g =
    let m = base + joint_count j in
    rw (open_moves base j (i ∷ js))
    (names_run base x j m (to_n (before_n m i) ∷ inner m i ++ moves_of (m + joint_count i) js) f (λ h. goes_moves m x (i ∷ js) h (omega (arith, count_more j (i ∷ js)))))

pub closed_named : (base : ℕ) (j i : EndpointData) (js : List EndpointData) (x : ℕ) → base ≤ x → x < base + vertex_count (j ∷ i ∷ js) → Names x (triangles_of true base (j ∷ i ∷ js))
unfolding moves_of
closed_named base j i js x f g =
    let m = base + joint_count j in
    rw (closed_moves base j i js)
    (names_run base x j m (to_n (before_n m i) ∷ (inner m i ++ moves_of (m + joint_count i) js) ++ home base j) f
    (λ h. goes_left x (moves_of m (i ∷ js)) (home base j) (goes_moves m x (i ∷ js) h (omega (arith, count_more j (i ∷ js))))))
