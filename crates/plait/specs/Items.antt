-- A round run's pieces as braid's items: how deep its arcs are, and what it means that items are what is written. Assumes nothing.
use Rattle.std.specs.Prelude.{ℕ, suc, ◌≡◌, cond, List, length}
use Rattle.endpoint.specs.declared.EndpointData.{EndpointData}
use Rattle.endpoint.specs.declared.Side.{Side}
use Rattle.endpoint.specs.declared.Side.TheVariants.{Positive, Negative}
use Rattle.pieces.specs.Piece.{Piece}
use Rattle.fans.specs.Fans.{gets_arc}
use Rattle.fans.specs.declared.Round.{Round}
use Rattle.braid.specs.Weave.{Item, added, woven}
use Rattle.braid.specs.Round.{Levels}

-- "a side that is a pair, not an inner join and not a fold, gets one arc .. k levels deep"
abbrev pub side_levels : Round → Side → EndpointData → ℕ
side_levels r side j = cond (gets_arc r.joins j side) r.detail 0

abbrev pub levels_of : Round → Levels
levels_of r = record { positive = side_levels r Positive; negative = side_levels r Negative }

-- a round cap "is cut first by the outward direction, then holds two arcs": a level more
abbrev pub cap_levels : Round → ℕ
cap_levels r = cond r.caps (suc r.detail) 0

-- the items ps are what f writes, wherever it begins
pub record Spun (ps : List Item) (f : ℕ → Piece) : Type 0 where
  pub vertices : (i : ℕ) → length (f i).vertices ≡ added ps
  pub triangles : (i : ℕ) → (f i).triangles ≡ woven i ps
