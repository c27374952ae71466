-- Floats that are not negative stand in the order of their units. Assumes nothing.
use mathlib.Core.Path.{◌≡◌, refl, sym, ap, ◌∙◌, subst, subst₂}
use Prim.Native.Nat.{ℕ, ◌*◌, ◌^◌, ◌<◌}
use native.Mathlib.Nat.{mul_right_comm, mul-lt-mul_of_pos_right, lt_of_mul-lt-mul_right}
use mathlib.Core.Bool.{true, false}
use lib.Dec.{T, ltb, lt→ltb}
use lib.Ieee.{Float, nan, inf, fin, binary32, fits, lt}
use lib.Ieee.Positive.{num, den, den_pos}
use Rattle.root.specs.Root.{rootable, units}
use Rattle.root.proofs.Units.{units_exact}

-- ---- a / c < b / d, where a / c is p / u and b / d is q / u
module _ (p q c d a b u : ℕ) (e : p * c ≡ a * u) (f : q * d ≡ b * u) (C : 0 < c) (D : 0 < d) where
  cross : p < q → a * d < b * c
  cross h =
      lt_of_mul-lt-mul_right u
      (subst₂ (λ (x y : ℕ). x < y)
      (ap (λ (x : ℕ). x * d) e ∙ mul_right_comm a u d)
      (mul_right_comm q c d ∙ ap (λ (x : ℕ). x * c) f ∙ mul_right_comm b u c)
      (mul-lt-mul_of_pos_right (mul-lt-mul_of_pos_right h C) D))

lt_cross : (x y : Float) → T (rootable x) → T (rootable y) → lt x y ≡ ltb (num x * den y) (num y * den x)
unfolding lt
lt_cross nan y p q = absurd p
lt_cross (inf s) y p q = absurd p
lt_cross (fin true m e) y p q = absurd p
lt_cross (fin false m e) nan p q = absurd q
lt_cross (fin false m e) (inf t) p q = absurd q
lt_cross (fin false m e) (fin true n d) p q = absurd q
lt_cross (fin false m e) (fin false n d) p q = refl

module _ (x y : Float) (f : T (fits binary32 x)) (g : T (fits binary32 y)) (p : T (rootable x)) (q : T (rootable y)) where
  pub units→lt : units x < units y → T (lt x y)
  units→lt h =
      subst T (sym (lt_cross x y p q))
      (lt→ltb (num x * den y) (num y * den x)
      (cross (units x) (units y) (den x) (den y) (num x) (num y) (2 ^ 149) (units_exact x f p) (units_exact y g q) (den_pos x) (den_pos y) h))
