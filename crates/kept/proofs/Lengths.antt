-- How many points are kept. Assumes nothing.
use Prim.Native.Nat.{suc, ◌≤◌}
use mathlib.Core.Bool.{Bool, true, false, cond}
use mathlib.Core.List.{List, [], ◌∷◌}
use native.Mathlib.Omega.{arith}
use lib.ListN.{length}
use Rattle.endpoint.specs.declared.Endpoint.{Endpoint}
use Rattle.kept.specs.Kept.{near, kept_behind, all_near, trimmed, kept_points}
use lib.Ieee.{Float}

module _ (limit : Float) where
  behind_few : (l : Endpoint) (ps : List Endpoint) → length (kept_behind limit l ps) ≤ length ps
  unfolding kept_behind
  behind_few l [] = omega arith
  behind_few l (p ∷ ps) = go (near limit l p) (behind_few l ps) (behind_few p ps)
    where
      go : (b : Bool) → length (kept_behind limit l ps) ≤ length ps → length (kept_behind limit p ps) ≤ length ps → length (cond b (kept_behind limit l ps) (p ∷ kept_behind limit p ps)) ≤ suc (length ps)
      go true a b = omega arith
      go false a b = omega arith

  trimmed_few : (p0 : Endpoint) (ps : List Endpoint) → length (trimmed limit p0 ps) ≤ length ps
  unfolding trimmed
  trimmed_few p0 [] = omega arith
  trimmed_few p0 (p ∷ ps) = go (all_near limit p0 (p ∷ ps)) (trimmed_few p0 ps)
    where
      go : (b : Bool) → length (trimmed limit p0 ps) ≤ length ps → length (cond b [] (p ∷ trimmed limit p0 ps)) ≤ suc (length ps)
      go true a = omega arith
      go false a = omega arith

  pub kept_few : (closed : Bool) (ps : List Endpoint) → length (kept_points limit closed ps) ≤ length ps
  unfolding kept_points
  kept_few closed [] = omega arith
  kept_few true (p ∷ ps) = omega (arith, trimmed_few p (kept_behind limit p ps), behind_few p ps)
  kept_few false (p ∷ ps) = omega (arith, behind_few p ps)
