-- Moves and the triangles that they make; a joint's own. The plan: `ladder` is one triangle a move; what lies between two sections is a ladder of two moves, one
-- or none (`between_both` and the three behind it); `Inner` says of a joint's own moves how many they are, which triangles they make and where they end, by the
-- four kinds of joint; `joint_on` goes on from there. Assumes nothing.
use Prim.Native.Nat.{ℕ, suc, ◌+◌, ◌-◌}
use mathlib.Core.Path.{◌≡◌, refl, ap, ◌∙◌}
use mathlib.Core.Bool.{Bool, true, false, cond}
use mathlib.Core.List.{List, [], ◌∷◌, ◌++◌}
use mathlib.Core.Logic.{◌≢◌}
use native.Mathlib.Omega.{arith}
use lib.ListN.{length}
use Rattle.endpoint.specs.Endpoint.{side_count_of}
use Rattle.endpoint.specs.declared.EndpointData.{EndpointData}
use Rattle.endpoint.specs.declared.SidePoints.{SidePoints}
use Rattle.endpoint.specs.declared.SidePoints.TheVariants.{Single, Pair}
use Rattle.strip.specs.Joint.{joint_count}
use Rattle.strip.specs.Section.{section_of, before_of, after_of}
use Rattle.triangles.specs.Tri.{Tri}
use Rattle.strip.specs.Triangle.{between}
use Rattle.strip.proofs.Triangles.{tri_yes, tri_end, tri_ends}

-- from the section (N, P) to one whose positive vertex is x, where true, or whose negative vertex
pub data Move : Type 0 where
  to : Bool → ℕ → Move

abbrev pub to_p : ℕ → Move
to_p = to true

abbrev pub to_n : ℕ → Move
to_n = to false

unfoldable pub ladder : ℕ → ℕ → List Move → List Tri
ladder n p [] = []
ladder n p (to s x ∷ ms) = record { a = n; b = p; c = x } ∷ ladder (cond s n x) (cond s x p) ms

pub length_ladder : (n p : ℕ) (ms : List Move) → length (ladder n p ms) ≡ length ms
unfolding ladder
length_ladder n p [] = refl
length_ladder n p (to s x ∷ ms) = ap suc (length_ladder (cond s n x) (cond s x p) ms)

-- where a ladder ends
end_n : ℕ → List Move → ℕ
end_n n [] = n
end_n n (to s x ∷ ms) = end_n (cond s n x) ms

end_p : ℕ → List Move → ℕ
end_p p [] = p
end_p p (to s x ∷ ms) = end_p (cond s x p) ms

ladder_append : (n p : ℕ) (xs ys : List Move) → ladder n p (xs ++ ys) ≡ ladder n p xs ++ ladder (end_n n xs) (end_p p xs) ys
unfolding ladder end_n end_p
ladder_append n p [] ys = refl
ladder_append n p (to s x ∷ xs) ys = rw (ladder_append (cond s n x) (cond s x p) xs ys)

-- the triangles between two sections: two moves, one or none
pub between_both : (n p m q x y : ℕ) → (m ≡ y) × (q ≡ x) × (n ≢ p) × (p ≢ x) × (n ≢ x) × (x ≢ y) × (n ≢ y) → between (section_of n p) (section_of m q) ≡ ladder n p (to_p x ∷ to_n y ∷ [])
unfolding between ladder
between_both n p m q x y d = rw (d.0, d.1, tri_yes n p x d.2 d.3 d.4, tri_yes n x y d.4 d.5 d.6)

between_p : (n p m q x : ℕ) → (m ≡ n) × (q ≡ x) × (n ≢ p) × (p ≢ x) × (n ≢ x) → between (section_of n p) (section_of m q) ≡ ladder n p (to_p x ∷ [])
unfolding between ladder
between_p n p m q x d = rw (d.0, d.1, tri_yes n p x d.2 d.3 d.4, tri_ends n x)

between_n : (n p m q x : ℕ) → (m ≡ x) × (q ≡ p) × (n ≢ p) × (p ≢ x) × (n ≢ x) → between (section_of n p) (section_of m q) ≡ ladder n p (to_n x ∷ [])
unfolding between ladder
between_n n p m q x d = rw (d.0, d.1, tri_end n p, tri_yes n p x d.2 d.3 d.4)

between_none : (n p m q : ℕ) → (m ≡ n) × (q ≡ p) → between (section_of n p) (section_of m q) ≡ ladder n p []
unfolding between ladder
between_none n p m q d = rw (d.0, d.1, tri_end n p, tri_ends n p)

-- the numbers of the sections before and after a joint whose vertices are numbered from base; its first positive vertex is base
abbrev pub before_n : ℕ → EndpointData → ℕ
before_n base j = (before_of base j).negative.0

abbrev pub after_n : ℕ → EndpointData → ℕ
after_n base j = (after_of base j).negative.0

abbrev pub after_p : ℕ → EndpointData → ℕ
after_p base j = (after_of base j).positive.0

-- the moves from the one to the other, a side at a time
unfoldable pub in_p : ℕ → SidePoints → List Move
in_p base (Single x y) = []
in_p base (Pair x0 y0 x1 y1) = to_p (base + 1) ∷ []

unfoldable pub in_n : ℕ → SidePoints → List Move
in_n base (Single x y) = []
in_n base (Pair x0 y0 x1 y1) = to_n (base + 1) ∷ []

unfoldable pub inner : ℕ → EndpointData → List Move
inner base j = in_p base j.positive ++ in_n (before_n base j) j.negative

record Inner (base p n : ℕ) (ms : List Move) : Type 0 where
  pub many : 2 + length ms ≡ p + n
  pub triangles : between (section_of (base + p) base) (section_of (base + p + n - 1) (base + p - 1)) ≡ ladder (base + p) base ms
  pub ends : (end_n (base + p) ms ≡ base + p + n - 1) × (end_p base ms ≡ base + p - 1)

inner_is : (base : ℕ) (j : EndpointData) → Inner base (side_count_of j.positive) (side_count_of j.negative) (inner base j)
unfolding inner in_p in_n end_n end_p
inner_is base j = go j.positive j.negative
  where
    go : (s t : SidePoints) → Inner base (side_count_of s) (side_count_of t) (in_p base s ++ in_n (base + side_count_of s) t)
    go (Single a b) (Single c d) = record { many = refl; triangles = between_none _ _ _ _ (omega arith); ends = omega arith }
    go (Single a b) (Pair c d e f) = record { many = refl; triangles = between_n _ _ _ _ _ (omega arith); ends = omega arith }
    go (Pair a b c d) (Single e f) = record { many = refl; triangles = between_p _ _ _ _ _ (omega arith); ends = omega arith }
    go (Pair a b c d) (Pair e f g h) = record { many = refl; triangles = between_both _ _ _ _ _ _ (omega arith); ends = omega arith }

pub length_inner : (base : ℕ) (j : EndpointData) → 2 + length (inner base j) ≡ joint_count j
length_inner base j = (inner_is base j).many

pub inner_triangles : (base : ℕ) (j : EndpointData) → between (before_of base j) (after_of base j) ≡ ladder (before_n base j) base (inner base j)
inner_triangles base j = (inner_is base j).triangles

-- the moves within a joint, and then others from the section after it
pub joint_on : (base : ℕ) (j : EndpointData) (ms : List Move)
    → ladder (before_n base j) base (inner base j ++ ms) ≡ between (before_of base j) (after_of base j) ++ ladder (after_n base j) (after_p base j) ms
joint_on base j ms = ladder_append (before_n base j) base (inner base j) ms ∙ rw ((inner_is base j).ends.0, (inner_is base j).ends.1, inner_triangles base j)
