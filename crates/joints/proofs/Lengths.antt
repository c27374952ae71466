-- How many joints kept points make: as many. Assumes nothing.
use Prim.Native.Nat.{ℕ, suc, ◌+◌}
use mathlib.Core.Path.{◌≡◌, refl, ◌∙◌}
use mathlib.Core.Bool.{Bool, true, false, cond}
use mathlib.Core.List.{List, [], ◌∷◌, ◌++◌}
use native.Mathlib.Omega.{arith}
use lib.ListN.{length, length-append}
use Rattle.endpoint.specs.declared.Endpoint.{Endpoint}
use Rattle.options.specs.declared.Stroke.{Stroke}
use Rattle.joints.specs.Leg.{first_leg_of, next_leg_of}
use Rattle.joints.specs.Joint.{joints_from, joints_of}
use Rattle.joints.specs.declared.leg.Leg.{Leg}

one_more : (a b c : ℕ) → a ≡ b + c → suc a ≡ suc b + c
one_more a b c h = omega arith

-- an open run has its end cap too
joints_from_lem : (closed : Bool) (o : Stroke) (leg : Leg) (ps : List Endpoint) → length (joints_from closed o leg ps) ≡ length ps + cond closed 0 1
unfolding joints_from
joints_from_lem true o leg [] = refl
joints_from_lem false o leg [] = refl
joints_from_lem closed o leg (p ∷ ps) = one_more _ _ _ (joints_from_lem closed o (next_leg_of o.half_width leg p) ps)

pub joints_length : (closed : Bool) (o : Stroke) (p q : Endpoint) (ks : List Endpoint) → length (joints_of closed o (p ∷ q ∷ ks)) ≡ length (p ∷ q ∷ ks)
unfolding joints_of
joints_length true o p q ks = joints_from_lem true o (first_leg_of o.half_width p q) (ks ++ p ∷ q ∷ []) ∙ simp length-append (omega arith)
joints_length false o p q ks = omega (arith, joints_from_lem false o (first_leg_of o.half_width p q) ks)
