-- One run: its kept points are spaced, so none of its legs is short. Assumes nothing.
use mathlib.Core.Bool.{Bool, true, false, cond}
use mathlib.Core.List.{List, [], ◌∷◌, ◌++◌}
use lib.Ieee.{Float}
use Rattle.endpoint.specs.declared.Endpoint.{Endpoint}
use Rattle.kept.specs.Kept.{kept_points}
use Rattle.joints.specs.Leg.{leg_of, first_leg_of, next_leg_of, legs_from}
use Rattle.joints.specs.declared.leg.Leg.{Leg}
use Rattle.lists.specs.All.{All}
use Rattle.lists.proofs.All.{all_append}
use Rattle.kept.proofs.Keeping.{Chain, Spaced, kept_all, kept_spaced}
use Rattle.rounding.proofs.Results.{Within}
use Rattle.stays.specs.Stays.{Inside}
use Rattle.far.specs.Short.{NotShort, legs_of}
use Rattle.far.proofs.Ranges.{Limit}
use Rattle.far.proofs.Apart.{Reached}
use Rattle.far.proofs.Edge.{not_short, near_mutual}

-- ---- the legs
module _ (limit h : Float) (least : Limit limit) (half : Within 8192 h) (bound : Float) (reached : Reached bound) where
  legs_from_lem : (leg : Leg) (ps : List Endpoint) → Inside leg.to → All Inside ps → Chain limit leg.to ps → All (NotShort bound) (legs_from h leg ps)
  unfolding legs_from next_leg_of leg_of
  legs_from_lem leg [] o i c = tt
  legs_from_lem leg (p ∷ ps) o i c = (not_short limit h leg.end leg.to p least half o i.0 c.0 bound reached, legs_from_lem (next_leg_of h leg p) ps i.0 i.1 c.1)

  legs_of_lem : (closed : Bool) (ks : List Endpoint) → All Inside ks → Spaced limit closed ks → All (NotShort bound) (legs_of closed h ks)
  unfolding legs_of leg_of
  legs_of_lem closed [] i c = tt
  legs_of_lem closed (p0 ∷ []) i c = tt
  legs_of_lem closed (p0 ∷ p1 ∷ ps) i c = (
    not_short limit h _ p0 p1 least half i.0 i.1.0 c.0 bound reached,
    legs_from_lem (first_leg_of h p0 p1) (ps ++ cond closed (p0 ∷ []) []) i.1.0 (all_append Inside ps (cond closed (p0 ∷ []) []) i.1.1 (again closed)) c.1,
  )
    where
      again : (t : Bool) → All Inside (cond t (p0 ∷ []) [])
      again true = (i.0, tt)
      again false = tt

  pub run_none : (closed : Bool) (ps : List Endpoint) → All Inside ps → All (NotShort bound) (legs_of closed h (kept_points limit closed ps))
  run_none closed ps i = legs_of_lem closed (kept_points limit closed ps) (kept_all limit Inside closed ps i) (kept_spaced limit Inside (λ p q P Q. near_mutual P Q limit) closed ps i)
