-- Demand 3's counts of a run with arcs. Assumes nothing.
use Prim.Native.Nat.{ℕ, ◌+◌, ◌-◌, ◌^◌}
use mathlib.Core.Path.{◌≡◌, refl, ap}
use mathlib.Core.List.{List, [], ◌∷◌, ◌++◌}
use native.Mathlib.Omega.{arith}
use lib.ListN.{length}
use Rattle.endpoint.specs.Endpoint.{side_count_of}
use Rattle.endpoint.specs.declared.EndpointData.{EndpointData}
use Rattle.endpoint.specs.declared.SidePoints.{SidePoints}
use Rattle.endpoint.specs.declared.SidePoints.TheVariants.{Single, Pair}
use Rattle.strip.specs.declared.section.Section.{Section}
use Rattle.strip.specs.Joint.{joint_count, vertex_count}
use Rattle.strip.specs.Section.{before_of, after_of}
use Rattle.strip.specs.Triangle.{between}
use Rattle.triangles.specs.Tri.{Tri}
use Rattle.strip.proofs.Facts.Counts.{open_count, closed_count}
use Rattle.braid.specs.Weave.{Item, one, arc, added, woven}
use Rattle.braid.specs.Round.{ones, Levels, side_arc, joint_items, onward, start_cap, end_cap, open_items, closed_items, side_added, joints_added}
use Rattle.braid.proofs.Woven.{woven_count}
use Rattle.braid.proofs.Rounds.{strip_open, strip_closed}

pub added_append : (ps qs : List Item) → added (ps ++ qs) ≡ added ps + added qs
unfolding added
added_append [] qs = omega arith
added_append (one t ∷ ps) qs = added_append ps qs
added_append (arc k a b ∷ ps) qs = omega (arith, added_append ps qs)

pub added_ones : (ts : List Tri) → added (ones ts) ≡ 0
unfolding added ones
added_ones [] = refl
added_ones (t ∷ ts) = added_ones ts

added_side : (l k : ℕ) (s : SidePoints) → added (side_arc l k s) ≡ side_added l s
unfolding added side_arc side_added
added_side l k (Single a b) = refl
added_side l k (Pair a b c d) = omega arith

abbrev joint_added : Levels → EndpointData → ℕ
joint_added ls j = side_added (ls.positive j) j.positive + side_added (ls.negative j) j.negative

added_joint : (ls : Levels) (k : ℕ) (j : EndpointData) → added (joint_items ls k j) ≡ joint_added ls j
added_joint ls k j =
    let m = k + side_count_of j.positive in
    let x : List Tri = between (before_of k j) (after_of k j) in
    let y : List Item = side_arc (ls.positive j) k j.positive in
    let z : List Item = side_arc (ls.negative j) m j.negative in
    omega
    (arith, added_append (ones x) (y ++ z), added_append y z, added_ones x, added_side (ls.positive j) k j.positive, added_side (ls.negative j) m j.negative)

added_onward : (ls : Levels) (end : Section → List Item) (c : ℕ) → ((s : Section) → added (end s) ≡ c)
    → (js : List EndpointData) (s : Section) (k : ℕ) → added (onward ls end s k js) ≡ joints_added ls js + c
unfolding onward joints_added
added_onward ls end c f [] s k = omega (arith, f s)
added_onward ls end c f (j ∷ js) s k =
    let rest : List Item = onward ls end (after_of k j) (k + joint_count j) js in
    omega (
      arith,
      added_append (ones (between s (before_of k j))) (joint_items ls k j ++ rest),
      added_append (joint_items ls k j) rest,
      added_ones (between s (before_of k j)),
      added_joint ls k j,
      added_onward ls end c f js (after_of k j) (k + joint_count j),
    )

added_cap : (l a b : ℕ) → added (arc l a b ∷ []) ≡ 2 ^ l - 1
unfolding added
added_cap l a b = omega arith

pub open_added : (ls : Levels) (s e k : ℕ) (j i : EndpointData) (js : List EndpointData)
    → added (open_items ls s e k j i js) ≡ joints_added ls (j ∷ i ∷ js) + ((2 ^ s - 1) + (2 ^ e - 1))
unfolding joints_added
open_added ls s e k j i js =
    let m = k + joint_count j in
    let rest : List Item = onward ls (end_cap e) (after_of m i) (m + joint_count i) js in
    let behind : List Item = joint_items ls m i ++ rest in
    let edge : List Tri = between (after_of k j) (before_of m i) in
    omega (
      arith,
      added_append (joint_items ls k j) (ones edge ++ (start_cap s (after_of k j) ++ behind)),
      added_append (ones edge) (start_cap s (after_of k j) ++ behind),
      added_append (start_cap s (after_of k j)) behind,
      added_append (joint_items ls m i) rest,
      added_ones edge,
      added_joint ls k j,
      added_joint ls m i,
      added_cap s (after_of k j).negative.0 (after_of k j).positive.0,
      added_onward ls (end_cap e) (2 ^ e - 1) (λ x. added_cap e x.positive.0 x.negative.0) js (after_of m i) (m + joint_count i),
    )

pub closed_added : (ls : Levels) (k : ℕ) (j i : EndpointData) (js : List EndpointData) → added (closed_items ls k j i js) ≡ joints_added ls (j ∷ i ∷ js)
unfolding joints_added
closed_added ls k j i js =
    let m = k + joint_count j in
    let end : Section → List Item = λ s. ones (between s (before_of k j)) in
    omega (
      arith,
      added_append (joint_items ls k j) (onward ls end (after_of k j) m (i ∷ js)),
      added_joint ls k j,
      rest end (λ s. added_ones (between s (before_of k j))),
    )
  where
    rest : (end : Section → List Item) → ((s : Section) → added (end s) ≡ 0)
        → added (onward ls end (after_of k j) (k + joint_count j) (i ∷ js)) ≡ joint_added ls i + joints_added ls js
    rest end f = omega (arith, added_onward ls end 0 f (i ∷ js) (after_of k j) (k + joint_count j))

-- an open run: two triangles fewer than its vertices, arcs and caps counted
pub open_tally : (ls : Levels) (s e k base : ℕ) (j i : EndpointData) (js : List EndpointData)
    → 2 + length (woven base (open_items ls s e k j i js)) ≡ vertex_count (j ∷ i ∷ js) + (joints_added ls (j ∷ i ∷ js) + ((2 ^ s - 1) + (2 ^ e - 1)))
open_tally ls s e k base j i js =
    omega (
      arith,
      woven_count base (open_items ls s e k j i js),
      ap length (strip_open ls s e k j i js),
      open_count k j (i ∷ js),
      open_added ls s e k j i js,
    )

-- a closed one: as many
pub closed_tally : (ls : Levels) (k base : ℕ) (j i : EndpointData) (js : List EndpointData)
    → length (woven base (closed_items ls k j i js)) ≡ vertex_count (j ∷ i ∷ js) + joints_added ls (j ∷ i ∷ js)
closed_tally ls k base j i js =
    omega (arith, woven_count base (closed_items ls k j i js), ap length (strip_closed ls k j i js), closed_count k j i js, closed_added ls k j i js)
