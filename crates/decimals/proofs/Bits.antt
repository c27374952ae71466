-- The pattern of the f32 nearest to a fraction, for any fraction n / c that is (t / d) * 2 ^ g units with a t / d of 24 binary digits. Assumes nothing.
use mathlib.Core.Path.{◌≡◌, refl, sym, ap, ◌∙◌, subst}
use mathlib.Core.Logic.{◌⊎◌, inl, inr}
use Prim.Native.Nat.{ℕ, zero, suc, ◌+◌, ◌-◌, ◌*◌, ◌/◌, ◌%◌, ◌^◌, ◌≤◌, ◌<◌, compare}
use native.Mathlib.Nat.{le_trans, le_of_eq, lt_of_lt_of_le, lt_of_le_of_lt, lt_of_not-le, not-le_of_lt, eq-or-lt_of_le}
use native.Mathlib.Nat.{mul-pos, mul-le-mul_right, mul-lt-mul_of_pos_right, le_of_mul-le-mul_right, lt_of_mul-lt-mul_right, le-div_iff_mul-le, div-lt_iff_lt-mul}
use native.Mathlib.Omega.{arith}
use mathlib.Core.Bool.{Bool, true, false, cond}
use lib.Dec.{ltb}
use lib.Pow.{pow-add, pow_pos, pow_mono, pow-lt}
use lib.Ieee.{inf, binary32, size, odd, units, round, neg, of_bits}
use lib.Ieee.Digits.{size-lt, size-le}
use lib.Ieee.Fits.{nearest-le, round-fits, round_is}
use lib.Ieee.Bits.{of_bits-fits}
use lib.Ieee.Exact.{HasValue}
use lib.Ieee.Nearest.{closest, closest_same, nearest-ge}
use lib.Ieee.Order.{drop, kept}
use lib.Ieee.Scale.{grid, overflow, round_val}
use Rattle.root.proofs.Patterns.{made, value_rootable}
use Rattle.root.proofs.Units.{units_of, same_units}

-- ---- how many digits are dropped
size_gt : (n j : ℕ) → 2 ^ j ≤ n → j < size n
size_gt n j h = lt_of_not-le (λ (g : size n ≤ j). not-le_of_lt (lt_of_lt_of_le (size-lt n) (pow_mono g)) h)

all_but : (z g : ℕ) → z ≤ 24 + g → 23 + g < z → z - 24 ≡ g
all_but z g h k = omega arith

drops : (n c g : ℕ) → 0 < c → 2 ^ (23 + g) * c ≤ n → n < 2 ^ (24 + g) * c → drop 24 n c ≡ g
drops n c g C lo hi = all_but (size (n / c)) g (size-le (n / c) (24 + g) ((div-lt_iff_lt-mul C).1 hi)) (size_gt (n / c) (23 + g) ((le-div_iff_mul-le C).1 lo))

-- ---- g * 2 ^ 23 + q is the pattern of q * 2 ^ g units also where q is 2 ^ 24: the sum carries into the exponent's field
carries : (g q : ℕ) → g ≤ 188 → 8388608 ≤ q → q ≤ 16777216 → HasValue (of_bits binary32 (g * 8388608 + q)) false (q * 2 ^ g) (2 ^ 149)
carries g q G lo hi = go (eq-or-lt_of_le hi)
  where
    next : (g : ℕ) → (g + 1) * 8388608 + 8388608 ≡ g * 8388608 + 16777216
    next g = omega arith

    twice : (g : ℕ) → 8388608 * 2 ^ (g + 1) ≡ 16777216 * 2 ^ g
    twice g = rw (pow-add 2 g 1) (omega arith)

    go : (q ≡ 16777216) ⊎ (q < 16777216) → HasValue (of_bits binary32 (g * 8388608 + q)) false (q * 2 ^ g) (2 ^ 149)
    go (inl e) =
        subst (λ (x : ℕ). HasValue (of_bits binary32 (g * 8388608 + x)) false (x * 2 ^ g) (2 ^ 149)) (sym e)
        (subst (λ (x : ℕ). HasValue (of_bits binary32 x) false (16777216 * 2 ^ g) (2 ^ 149)) (next g)
        (subst (λ (x : ℕ). HasValue (of_bits binary32 ((g + 1) * 8388608 + 8388608)) false x (2 ^ 149)) (twice g)
        (made (g + 1) 8388608 (omega arith) (omega arith) (omega arith))))
    go (inr l) = made g q (omega arith) lo l

module _ (n c t d g : ℕ) (C : 0 < c) (D : 0 < d) (G : g ≤ 188) (same : n * 2 ^ 149 * d ≡ t * (c * 2 ^ g)) (lo : 8388608 * d ≤ t) (hi : t < 16777216 * d) where
  -- of the fraction in units
  whole : (k N : ℕ) → N * d ≡ t * (c * 2 ^ g) → 2 ^ (k + g) * c * d ≡ 2 ^ k * d * (c * 2 ^ g)
  whole k N s = rw (pow-add 2 k g) (omega arith)

  low : (N : ℕ) → N * d ≡ t * (c * 2 ^ g) → 2 ^ (23 + g) * c ≤ N
  low N s = le_of_mul-le-mul_right (le_trans (le_of_eq (whole 23 N s)) (le_trans (mul-le-mul_right (c * 2 ^ g) lo) (le_of_eq (sym s)))) D

  high : (N : ℕ) → N * d ≡ t * (c * 2 ^ g) → N < 2 ^ (24 + g) * c
  high N s = lt_of_mul-lt-mul_right d (lt_of_le_of_lt (le_of_eq s) (lt_of_lt_of_le (mul-lt-mul_of_pos_right hi (mul-pos C (pow_pos g))) (le_of_eq (sym (whole 24 N s)))))

  on_grid : grid binary32 n c ≡ closest t d * 2 ^ g
  on_grid =
      let N = n * 2 ^ 149 in
      ap (λ (k : ℕ). closest N (c * 2 ^ k) * 2 ^ k) (drops N c g C (low N same) (high N same))
      ∙ ap (λ (x : ℕ). x * 2 ^ g) (closest_same N (c * 2 ^ g) t d (mul-pos C (pow_pos g)) D same)

  pub least : 8388608 ≤ closest t d
  least = le_trans ((le-div_iff_mul-le D).1 lo) (nearest-ge (t / d) (compare (t % d * 2) d))

  pub most : closest t d ≤ 16777216
  most = le_trans (nearest-le (t / d) (compare (t % d * 2) d)) ((div-lt_iff_lt-mul D).1 hi)

  under : closest t d * 2 ^ g < overflow binary32
  under =
      let e : 24 + g < 277 = omega arith in
      lt_of_le_of_lt (mul-le-mul_right (2 ^ g) most) (lt_of_le_of_lt (le_of_eq (sym (pow-add 2 24 g))) (pow-lt e))

  pub round_bits : of_bits binary32 (g * 8388608 + closest t d) ≡ round binary32 false n c
  round_bits =
      let b = g * 8388608 + closest t d in
      let x = of_bits binary32 b in
      let y = round binary32 false n c in
      let v = closest t d * 2 ^ g in
      let h : HasValue x false v (2 ^ 149) = carries g (closest t d) G least most in
      let k : HasValue y false v (2 ^ 149) =
      subst (λ (w : ℕ). HasValue y false w (2 ^ 149)) on_grid (round_val binary32 n c (subst (λ (w : ℕ). w < overflow binary32) (sym on_grid) under)) in
      same_units x y (of_bits-fits binary32 b) (round-fits binary32 false n c) (value_rootable x v (2 ^ 149) h) (value_rootable y v (2 ^ 149) k) (units_of x v h ∙ sym (units_of y v k))

-- ---- the sign
neg_odd : (d q k l : ℕ) → neg (odd d false q k l) ≡ odd d true q k l
unfolding neg odd
neg_odd d zero k l = refl
neg_odd d (suc q) k l = refl

neg_units : (q k : ℕ) → neg (units binary32 false q k) ≡ units binary32 true q k
unfolding units
neg_units q k = go (ltb (q * 2 ^ k) (2 ^ 277))
  where
    go : (b : Bool) → neg (cond b (odd 25 false q k 149) (inf false)) ≡ cond b (odd 25 true q k 149) (inf true)
    go true = neg_odd 25 q k 149
    go false = unfold neg in refl

pub neg_round : (n c : ℕ) → neg (round binary32 false n c) ≡ round binary32 true n c
neg_round n c =
    let N = n * 2 ^ 149 in
    ap neg (round_is binary32 false n c) ∙ neg_units (kept 24 N c) (drop 24 N c) ∙ sym (round_is binary32 true n c)
