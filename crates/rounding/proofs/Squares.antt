-- The f32 squared length of a vector, by the sizes of its components: each square is rounded, and so is their sum. Of its size: the bounds that it
-- has from its components, and that it is no less than a quarter of a component's square. Assumes nothing.
use mathlib.Core.Path.{◌≡◌, sym, ap, ◌∙◌, subst}
use mathlib.Core.Logic.{◌⊎◌, inl, inr}
use Prim.Native.Nat.{ℕ, suc, ◌+◌, ◌*◌, ◌^◌, ◌≤◌, ◌<◌}
use native.Mathlib.Nat.{le_trans, le_of_eq, le_of_lt, lt_of_not-le, mul_assoc, mul-le-mul, mul-le-mul_right, le_of_mul-le-mul_right, mul-mul-mul_comm, mul-pos, two-pow-succ}
use native.Mathlib.Decide.{dec_le}
use native.Mathlib.Omega.{arith}
use mathlib.Core.Bool.{Bool, false}
use lib.Pow.{pow-add}
use lib.Ieee.{Float, binary32, round, add, sub, mul}
use lib.Ieee.Exact.{HasValue}
use Rattle.rounding.proofs.Rounding.{rounded, le_twice_rounded}
use Rattle.rounding.proofs.Scales.{one, grain, speck, one_pos, grains_square, rounded_le_specks, le_rounded_specks}
use Rattle.rounding.proofs.Signed.{alike, differences_size}
use Rattle.rounding.proofs.Values.{mul_round, add_plain, sub_round}
use Rattle.rounding.proofs.Results.{whole, power, Made, made}
use Rattle.rounding.proofs.Differences.{Gap, distance}

-- of (x, y), as f32 has it; and of (±g, ±h) units, in units
abbrev pub square_length : Float → Float → Float
square_length x y = add binary32 (mul binary32 x x) (mul binary32 y y)

unfoldable pub squared : ℕ → ℕ
squared g = rounded (g * g * one) (one * one)

unfoldable pub length_squared : ℕ → ℕ → ℕ
length_squared g h = rounded ((squared g + squared h) * one) one

-- ---- what f32 makes
one_one_pos : 0 < one * one
one_one_pos = mul-pos one_pos one_pos

square_round : (x : Float) (s : Bool) (g : ℕ) → HasValue x s g one → mul binary32 x x ≡ round binary32 false (g * g) (one * one)
square_round x s g v = mul_round x x s s g one g one one_pos one_pos v v ∙ ap (λ (t : Bool). round binary32 t (g * g) (one * one)) (alike s)

module _ (j : ℕ) (J : suc (j + j) ≤ 100) where
  square_made : (x : Float) (s : Bool) (g : ℕ) → HasValue x s g one → g ≤ 2 ^ j * one → Made (mul binary32 x x) false (g * g) (one * one) (2 ^ (j + j))
  square_made x s g v h =
      made (mul binary32 x x) false (g * g) (one * one) (2 ^ (j + j)) one_one_pos (power (j + j) (omega arith)) (square_round x s g v)
      (le_trans (mul-le-mul h h) (le_of_eq (mul-mul-mul_comm (2 ^ j) one (2 ^ j) one ∙ ap (λ (p : ℕ). p * (one * one)) (sym (pow-add 2 j j)))))

  pub square_length_value : (x y : Float) (s t : Bool) (g h : ℕ) → HasValue x s g one → g ≤ 2 ^ j * one → HasValue y t h one → h ≤ 2 ^ j * one
      → HasValue (square_length x y) false (length_squared g h) one
  unfolding squared length_squared
  square_length_value x y s t g h v p w q =
      let a = square_made x s g v p in
      let b = square_made y t h w q in
      (made (square_length x y) false (squared g + squared h) one (2 ^ suc (j + j)) one_pos (power (suc (j + j)) J)
      (add_plain (mul binary32 x x) (mul binary32 y y) (squared g) (squared h) one one_pos a.value b.value) (both (squared g) (squared h) (j + j) a.within b.within)).value
    where
      both : (a b i : ℕ) → a ≤ 2 ^ i * one → b ≤ 2 ^ i * one → a + b ≤ 2 ^ suc i * one
      both a b i p q = omega (arith, ap (λ (k : ℕ). k * one) (two-pow-succ i))

-- ---- its bounds
module _ (k g : ℕ) (K : k * k < 2 ^ 24) where
  pub le_squared : k * grain ≤ g → k * k * speck ≤ squared g
  unfolding squared
  le_squared h = le_rounded_specks (k * k) (g * g * one) (one * one) K one_one_pos (more k g speck one (subst (λ (x : ℕ). k * k * x ≤ g * g) grains_square (squares k g grain h)))
    where
      squares : (k g u : ℕ) → k * u ≤ g → k * k * (u * u) ≤ g * g
      squares k g u h = omega (arith, mul-le-mul h h)

      more : (k g u v : ℕ) → k * k * (u * v) ≤ g * g → k * k * u * (v * v) ≤ g * g * v
      more k g u v h = omega (arith, mul-le-mul_right v h)

  pub squared_le : g ≤ k * grain → squared g ≤ k * k * speck
  unfolding squared
  squared_le h = rounded_le_specks (k * k) (g * g * one) (one * one) K one_one_pos (less k g speck one (subst (λ (x : ℕ). g * g ≤ k * k * x) grains_square (squares k g grain h)))
    where
      squares : (k g u : ℕ) → g ≤ k * u → g * g ≤ k * k * (u * u)
      squares k g u h = omega (arith, mul-le-mul h h)

      less : (k g u v : ℕ) → g * g ≤ k * k * (u * v) → g * g * v ≤ k * k * u * (v * v)
      less k g u v h = omega (arith, mul-le-mul_right v h)

module _ (g h k : ℕ) (K : k < 2 ^ 24) where
  pub le_length_squared : k * speck ≤ squared g + squared h → k * speck ≤ length_squared g h
  unfolding length_squared
  le_length_squared l = le_rounded_specks k ((squared g + squared h) * one) one K one_pos (mul-le-mul_right one l)

  pub length_squared_le : squared g + squared h ≤ k * speck → length_squared g h ≤ k * speck
  unfolding length_squared
  length_squared_le l = rounded_le_specks k ((squared g + squared h) * one) one K one_pos (mul-le-mul_right one l)

-- ---- no less than a quarter of a component's square: rounding does not halve, and it is done twice. What is below a unit may be lost
half_square : (k : ℕ) → k * k ≤ 2 * (squared k * one) ⊎ k * k ≤ one
unfolding squared
half_square k = go (dec_le one (k * k))
  where
    cancel : (x y u : ℕ) → 0 < u → x * u ≤ 2 * (y * (u * u)) → x ≤ 2 * (y * u)
    cancel x y u U h = le_of_mul-le-mul_right (le_trans h (le_of_eq (regroup y u))) U
      where
        regroup : (y u : ℕ) → 2 * (y * (u * u)) ≡ 2 * (y * u) * u
        regroup y u = omega arith

    go : Dec (one ≤ k * k) → k * k ≤ 2 * (rounded (k * k * one) (one * one) * one) ⊎ k * k ≤ one
    go (yes l) = inl (cancel (k * k) (rounded (k * k * one) (one * one)) one one_pos (le_twice_rounded (k * k * one) (one * one) one_one_pos (mul-le-mul_right one l)))
    go (no f) = inr (le_of_lt (lt_of_not-le f))

half_sum : (n : ℕ) → n ≤ 2 * rounded (n * one) one
half_sum n = go (dec_le 1 n)
  where
    itself : (x u : ℕ) → 1 ≤ x → u ≤ x * u
    itself x u h = omega (arith, mul-le-mul_right u h)

    none : (x y : ℕ) → x < 1 → x ≤ y
    none x y h = omega arith

    go : Dec (1 ≤ n) → n ≤ 2 * rounded (n * one) one
    go (yes l) = le_of_mul-le-mul_right (le_trans (le_twice_rounded (n * one) one one_pos (itself n one l)) (le_of_eq (sym (mul_assoc 2 (rounded (n * one) one) one)))) one_pos
    go (no f) = none n (2 * rounded (n * one) one) (lt_of_not-le f)

pub quarter_le_length_squared : (g h k : ℕ) → 0 < length_squared g h → squared k ≤ squared g + squared h → k * k ≤ 4 * (length_squared g h * one)
unfolding length_squared
quarter_le_length_squared g h k S l = go (k * k) (squared k) (rounded ((squared g + squared h) * one) one) one S (half_square k) (le_trans l (half_sum (squared g + squared h)))
  where
    go : (n q s u : ℕ) → 0 < s → n ≤ 2 * (q * u) ⊎ n ≤ u → q ≤ 2 * s → n ≤ 4 * (s * u)
    go n q s u S (inl h) l = omega (arith, mul-le-mul_right u l)
    go n q s u S (inr h) l = omega (arith, mul-le-mul_right u S)

-- ---- b - a and a - b have one square
pub square_mirrored : {k : ℕ} {a b : Float} → 2 * k < 2 ^ 24 → Gap k a b → mul binary32 (sub binary32 b a) (sub binary32 b a) ≡ mul binary32 (sub binary32 a b) (sub binary32 a b)
square_mirrored {k} {a} {b} K G =
    let d = sub_round a b G.sa G.sb G.A G.B G.c G.some G.first G.second in
    let s : G.w ≡ d.w = differences_size G.sb G.B G.sa G.A G.r G.w d.r d.w G.sums d.sums in
    let m = made (sub binary32 a b) d.r d.w G.c (2 * k) G.some (whole (2 * k) K) d.is (subst (λ (w : ℕ). w ≤ 2 * k * G.c) s G.wide) in
    square_round (sub binary32 b a) G.r (distance G) G.difference.value
    ∙ sym (square_round (sub binary32 a b) d.r (distance G) (subst (λ (w : ℕ). HasValue (sub binary32 a b) d.r (rounded (w * one) G.c) one) (sym s) m.value))
