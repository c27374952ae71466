-- The nearest whole number to a root, times a power of two, is the nearest f32 to the root times that power. Assumes nothing.
--
-- The plan: another f32 is a multiple of 2 ^ g or lies below 2 ^ 23 times it, so it is a whole step from s * 2 ^ g or below the first place
-- that s can have; the middles are then compared by their squares.
use mathlib.Core.Path.{◌≡◌, sym, ap, ◌∙◌, subst, subst₂}
use Prim.Native.Nat.{ℕ, suc, ◌+◌, ◌-◌, ◌*◌, ◌^◌, ◌≤◌, ◌<◌}
use native.Mathlib.Nat.{le_of_lt, eq-or-lt_of_le, lt_of_lt_of_le, lt_of_not-le, not-le_of_lt, mul-le-mul_right, mul-lt-mul_of_pos_right, lt_of_mul-lt-mul_right, mul-pos, pow-succ'}
use native.Mathlib.Decide.{dec_le}
use native.Mathlib.Omega.{arith}
use mathlib.Core.Logic.{◌⊎◌, inl, inr}
use mathlib.Core.Bool.{false}
use lib.Dec.{T}
use lib.Pow.{pow_pos, pow_mono}
use lib.Ieee.{Float, binary32, fits}
use lib.Ieee.Exact.{HasValue}
use Rattle.root.specs.Root.{rootable, units, square, IsRoot, Close}
use Rattle.root.specs.Steps.{Near}
use Rattle.root.proofs.Squares.{sq_le}
use Rattle.root.proofs.Units.{units_of, multiple, grid}

-- ---- how near another value can be: n * 2 ^ j is a multiple of 2 ^ g, or it is below 2 ^ 23 * 2 ^ g
abbrev Spaced : ℕ → ℕ → ℕ → Type 0
Spaced n j g = ((k : ℕ) × (n * 2 ^ j ≡ k * 2 ^ g)) ⊎ (n * 2 ^ j < 8388608 * 2 ^ g)

spaced : (n j g : ℕ) → n < 16777216 → Spaced n j g
spaced n j g h = go (dec_le g j)
  where
    go : Dec (g ≤ j) → Spaced n j g
    go (yes l) = inl (n * 2 ^ (j - g), multiple n g j l)
    go (no f) =
        let a : n * 2 ^ j < 16777216 * 2 ^ j = mul-lt-mul_of_pos_right h (pow_pos j) in
        let b : 2 ^ suc j ≤ 2 ^ g = pow_mono (lt_of_not-le f) in
        inr (omega (arith, pow-succ' 2 j))

module _ (s G Y : ℕ) (p : 0 < G) where
  next_up : (k : ℕ) → Y ≡ k * G → s * G < Y → s * G + G ≤ Y
  next_up k e h = let l : s < k = lt_of_mul-lt-mul_right G (subst (λ (y : ℕ). s * G < y) e h) in omega (arith, mul-le-mul_right G l)

  next_down : (k : ℕ) → Y ≡ k * G → Y < s * G → Y + G ≤ s * G
  next_down k e h = let l : k < s = lt_of_mul-lt-mul_right G (subst (λ (y : ℕ). y < s * G) e h) in omega (arith, mul-le-mul_right G l)

-- ---- the middles, in units. X is S * (G * G), and r is s * G
module _ (S s G Y X : ℕ) (p : 0 < G) (e : X ≡ S * (G * G)) where
  over : S ≤ s * s + s → s * G + G ≤ Y → 4 * X < (s * G + Y) * (s * G + Y)
  over h l =
      let a : (s + s + 1) * G ≤ s * G + Y = omega arith in
      omega (arith, sq_le a, mul-le-mul_right (G * G) h, mul-pos p p)

  under : s * s < S + s → 0 < s → Y + G ≤ s * G → (s * G + Y) * (s * G + Y) < 4 * X
  under h q l =
      let u = s - 1 in
      let su : s ≡ u + 1 = omega arith in
      let hu : u * u + u + 1 ≤ S = less u (subst (λ (t : ℕ). t * t < S + t) su h) in
      let lu : Y + G ≤ (u + 1) * G = subst (λ (t : ℕ). Y + G ≤ t * G) su l in
      let a : s * G + Y ≤ (u + u + 1) * G = subst (λ (t : ℕ). t * G + Y ≤ (u + u + 1) * G) (sym su) (omega arith) in
      omega (arith, sq_le a, mul-le-mul_right (G * G) hu, mul-pos p p)
    where
      less : (u : ℕ) → (u + 1) * (u + 1) < S + (u + 1) → u * u + u + 1 ≤ S
      less u k = omega arith

  under_first : 70368744177664 ≤ S → s ≡ 8388608 → Y < 8388608 * G → (s * G + Y) * (s * G + Y) < 4 * X
  under_first h q l =
      let a : s * G + Y + 1 ≤ 16777216 * G = subst (λ (t : ℕ). t * G + Y + 1 ≤ 16777216 * G) (sym q) (omega arith) in
      omega (arith, sq_le a, mul-le-mul_right (G * G) h)

-- ---- together
module _ (S s g n j : ℕ) (X : ℕ) (e : X ≡ S * (2 ^ g * 2 ^ g)) (N : Near S s) (lo : 70368744177664 ≤ S) (h : n < 16777216) where
  all_above : s * 2 ^ g < n * 2 ^ j → 4 * X < (s * 2 ^ g + n * 2 ^ j) * (s * 2 ^ g + n * 2 ^ j)
  all_above l = go (spaced n j g h)
    where
      go : Spaced n j g → 4 * X < (s * 2 ^ g + n * 2 ^ j) * (s * 2 ^ g + n * 2 ^ j)
      go (inl t) = over S s (2 ^ g) (n * 2 ^ j) X (pow_pos g) e N.high (next_up s (2 ^ g) (n * 2 ^ j) (pow_pos g) t.0 t.1 l)
      go (inr t) = absurd (not-le_of_lt (lt_of_lt_of_le t (mul-le-mul_right (2 ^ g) N.least)) (le_of_lt l))

  all_below : n * 2 ^ j < s * 2 ^ g → (s * 2 ^ g + n * 2 ^ j) * (s * 2 ^ g + n * 2 ^ j) < 4 * X
  all_below l = go (spaced n j g h)
    where
      beside : n * 2 ^ j + 2 ^ g ≤ s * 2 ^ g → (s * 2 ^ g + n * 2 ^ j) * (s * 2 ^ g + n * 2 ^ j) < 4 * X
      beside k = under S s (2 ^ g) (n * 2 ^ j) X (pow_pos g) e N.low (lt_of_lt_of_le (pow_pos 23) N.least) k

      apart : (8388608 ≡ s) ⊎ (8388608 < s) → n * 2 ^ j < 8388608 * 2 ^ g → (s * 2 ^ g + n * 2 ^ j) * (s * 2 ^ g + n * 2 ^ j) < 4 * X
      apart (inl q) t = under_first S s (2 ^ g) (n * 2 ^ j) X (pow_pos g) e lo (sym q) t
      apart (inr q) t = beside (omega (arith, mul-le-mul_right (2 ^ g) q))

      go : Spaced n j g → (s * 2 ^ g + n * 2 ^ j) * (s * 2 ^ g + n * 2 ^ j) < 4 * X
      go (inl t) = beside (next_down s (2 ^ g) (n * 2 ^ j) (pow_pos g) t.0 t.1 l)
      go (inr t) = apart (eq-or-lt_of_le N.least) t

-- ---- the relative error: half a step of 2 ^ g, where s has 24 digits
module _ (S s G X : ℕ) (e : X ≡ S * (G * G)) (N : Near S s) where
  error_low : 16777215 * (s * G) * (16777215 * (s * G)) ≤ 2 ^ 48 * X
  error_low =
      let a = N.low in
      let b = N.most in
      let h : 16777215 * s * (16777215 * s) ≤ 2 ^ 48 * S = omega (arith, mul-le-mul_right s N.least) in
      omega (arith, mul-le-mul_right (G * G) h)

  error_high : 2 ^ 48 * X ≤ 16777217 * (s * G) * (16777217 * (s * G))
  error_high =
      let a = N.high in
      let h : 2 ^ 48 * S ≤ 16777217 * s * (16777217 * s) = omega (arith, mul-le-mul_right s N.least) in
      omega (arith, mul-le-mul_right (G * G) h)

-- ---- of floats: x has v units, and r has s * 2 ^ g
module _ (x r : Float) (v S s g : ℕ) (hx : HasValue x false v (2 ^ 149)) (hr : HasValue r false (s * 2 ^ g) (2 ^ 149)) (e : v * 2 ^ 149 ≡ S * (2 ^ g * 2 ^ g)) (N : Near S s) where
  squared : square x ≡ S * (2 ^ g * 2 ^ g)
  squared = ap (λ (n : ℕ). n * 2 ^ 149) (units_of x v hx) ∙ e

  rooted : s * 2 ^ g ≡ units r
  rooted = sym (units_of r (s * 2 ^ g) hr)

  pub is_root : T (fits binary32 r) → T (rootable r) → 70368744177664 ≤ S → IsRoot x r
  is_root f p lo = record {
    held = f;
    plain = p;
    above = λ y fy py h.
        let d = grid y fy py in
        subst₂ (λ (a b : ℕ). 4 * square x < (a + b) * (a + b)) rooted (sym d.3)
        (all_above S s g d.0 d.1 (square x) squared N lo d.2 (subst₂ (λ (a b : ℕ). a < b) (sym rooted) d.3 h));
    below = λ y fy py h.
        let d = grid y fy py in
        subst₂ (λ (a b : ℕ). (a + b) * (a + b) < 4 * square x) rooted (sym d.3)
        (all_below S s g d.0 d.1 (square x) squared N lo d.2 (subst₂ (λ (a b : ℕ). b < a) (sym rooted) d.3 h));
  }

  pub is_close_lem : Close x r
  is_close_lem = record {
    low = subst (λ (n : ℕ). 16777215 * n * (16777215 * n) ≤ 2 ^ 48 * square x) rooted (error_low S s (2 ^ g) (square x) squared N);
    high = subst (λ (n : ℕ). 2 ^ 48 * square x ≤ 16777217 * n * (16777217 * n)) rooted (error_high S s (2 ^ g) (square x) squared N);
  }
