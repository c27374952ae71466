-- A run's items: rule 9's triangles from section to section, with the arcs of W-209 behind them. Assumes nothing.
use Rattle.std.specs.Prelude.{ℕ, ◌+◌, ◌-◌, ◌^◌, List, [], ◌∷◌, ◌++◌}
use Rattle.endpoint.specs.Endpoint.{side_count_of}
use Rattle.endpoint.specs.declared.EndpointData.{EndpointData}
use Rattle.endpoint.specs.declared.SidePoints.{SidePoints}
use Rattle.endpoint.specs.declared.SidePoints.TheVariants.{Single, Pair}
use Rattle.strip.specs.declared.section.Section.{Section}
use Rattle.strip.specs.Joint.{joint_count}
use Rattle.strip.specs.Section.{before_of, after_of}
use Rattle.strip.specs.Triangle.{between}
use Rattle.triangles.specs.Tri.{Tri}
use Rattle.braid.specs.Weave.{Item, one, arc}

unfoldable pub ones : List Tri → List Item
ones [] = []
ones (t ∷ ts) = one t ∷ ones ts

-- how many levels deep the arc of a joint's side is; 0 where it has none, and an arc of no levels is nothing
pub record Levels : Type 0 where
  pub positive : EndpointData → ℕ
  pub negative : EndpointData → ℕ

-- "a side that is a pair .. gets one arc from its first vertex", k
unfoldable pub side_arc : ℕ → ℕ → SidePoints → List Item
side_arc l k (Single x y) = []
side_arc l k (Pair x0 y0 x1 y1) = arc l k (k + 1) ∷ []

-- "positive side first, written after the join's own triangles"
abbrev pub joint_items : Levels → ℕ → EndpointData → List Item
joint_items ls k j =
    ones (between (before_of k j) (after_of k j))
    ++ (side_arc (ls.positive j) k j.positive ++ side_arc (ls.negative j) (k + side_count_of j.positive) j.negative)

-- from the section s through the joints js, numbered from k, and then what comes at the run's end
unfoldable pub onward : Levels → (Section → List Item) → Section → ℕ → List EndpointData → List Item
onward ls end s k [] = end s
onward ls end s k (j ∷ js) = ones (between s (before_of k j)) ++ (joint_items ls k j ++ onward ls end (after_of k j) (k + joint_count j) js)

-- a cap "from the negative vertex at a start and the positive at an end"; l is k + 1 where it is round, and 0 where not
abbrev pub start_cap : ℕ → Section → List Item
start_cap l s = arc l s.negative.0 s.positive.0 ∷ []

abbrev pub end_cap : ℕ → Section → List Item
end_cap l s = arc l s.positive.0 s.negative.0 ∷ []

-- "The start cap's arcs follow the first edge's triangles, the end cap's the last."
abbrev pub open_items : Levels → ℕ → ℕ → ℕ → EndpointData → EndpointData → List EndpointData → List Item
open_items ls s e k j i js =
    joint_items ls k j
    ++ (ones (between (after_of k j) (before_of (k + joint_count j) i))
    ++ (start_cap s (after_of k j)
    ++ (joint_items ls (k + joint_count j) i ++ onward ls (end_cap e) (after_of (k + joint_count j) i) (k + joint_count j + joint_count i) js)))

abbrev pub closed_items : Levels → ℕ → EndpointData → EndpointData → List EndpointData → List Item
closed_items ls k j i js = joint_items ls k j ++ onward ls (λ s. ones (between s (before_of k j))) (after_of k j) (k + joint_count j) (i ∷ js)

-- what the arcs of a run's joints add
unfoldable pub side_added : ℕ → SidePoints → ℕ
side_added l (Single x y) = 0
side_added l (Pair x0 y0 x1 y1) = 2 ^ l - 1

unfoldable pub joints_added : Levels → List EndpointData → ℕ
joints_added ls [] = 0
joints_added ls (j ∷ js) = side_added (ls.positive j) j.positive + side_added (ls.negative j) j.negative + joints_added ls js

-- a round empty cap: the square's two triangles, then "arcs a to b, b to c, c to d, d to a" of l levels each
abbrev pub square_items : ℕ → ℕ → List Item
square_items l k =
    one (record { a = k; b = k + 1; c = k + 2 }) ∷ one (record { a = k; b = k + 2; c = k + 3 }) ∷ arc l k (k + 1) ∷ arc l (k + 1) (k + 2) ∷ arc l (k + 2) (k + 3)
    ∷ arc l (k + 3) k ∷ []
