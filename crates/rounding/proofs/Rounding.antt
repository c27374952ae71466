-- What rounding to f32 keeps of a fraction n / c, in whole numbers alone: the bounds that an f32 can be, all but half a place, half of the number, and
-- a number that is rounded already.
-- By way of: the nearest whole number is within a half; the digits dropped are those above 24; the rounded number is a nearest one, in places.
-- Assumes nothing.
use mathlib.Core.Path.{◌≡◌, sym, ap, ◌∙◌, subst}
use Prim.Native.Nat.{ℕ, zero, suc, ◌+◌, ◌-◌, ◌*◌, ◌/◌, ◌%◌, ◌^◌, ◌≤◌, ◌<◌, compare, Ordering}
use native.Mathlib.Nat.{le_trans, le_antisymm, le_of_eq, le_of_lt, lt_of_not-le, lt_of_lt_of_le, lt_of_le_of_lt, one-mul, mul_assoc, mul_comm, mul_right_comm, mul-le-mul_right, mul-lt-mul_of_pos_right, le_of_mul-le-mul_right, mul-pos, mod-lt, div-add-mod', le-div_iff_mul-le, div-lt_iff_lt-mul}
use native.Mathlib.Decide.{dec_le}
use native.Mathlib.Omega.{arith}
use mathlib.Core.Bool.{not}
use lib.Dec.{T, lit<, is_le, compare_is_eq, leb→le, nleb→lt, eqb→eq}
use lib.Pow.{pow-add, pow_pos, pow_mono}
use lib.Ieee.{size, nearest}
use lib.Ieee.Digits.{size-lt, size-le, size_reaches}
use lib.Ieee.Nearest.{closest}
use lib.Ieee.Order.{drop, kept}
use Rattle.root.proofs.Units.{multiple}

-- n / c rounded to a number of at most 24 digits with zeros behind them
unfoldable pub rounded : ℕ → ℕ → ℕ
rounded n c = kept 24 n c * 2 ^ drop 24 n c

-- ---- the nearest whole number is within a half
module _ (q r u : ℕ) (R : r < u) where
  abbrev WithinHalf : ℕ → Type 0
  WithinHalf v = (2 * (v * u) ≤ 2 * (q * u + r) + u) × (2 * (q * u + r) ≤ 2 * (v * u) + u)

  nearest_half : (o : Ordering) → (T (is_le o) → r * 2 ≤ u) → (T (not (is_le o)) → u < r * 2) → (T (compare_is_eq o) → r * 2 ≡ u) → WithinHalf (nearest q o)
  nearest_half Ordering.lt h k e = let a = h tt in (omega arith, omega arith)
  nearest_half Ordering.eq h k e =
      let a = e tt in
      let b : q % 2 ≤ 1 = omega arith in
      (omega (arith, mul-le-mul_right u b), omega (arith, mul-le-mul_right u b))
  nearest_half Ordering.gt h k e = let a = k tt in (omega arith, omega arith)

module _ (n u : ℕ) (U : 0 < u) where
  closest_half : (2 * (closest n u * u) ≤ 2 * n + u) × (2 * n ≤ 2 * (closest n u * u) + u)
  closest_half =
      let r = n % u in
      subst (λ (m : ℕ). (2 * (closest n u * u) ≤ 2 * m + u) × (2 * m ≤ 2 * (closest n u * u) + u)) (div-add-mod' n u)
      (nearest_half (n / u) r u (mod-lt n U) (compare (r * 2) u) (leb→le (r * 2) u) (nleb→lt (r * 2) u) (eqb→eq (r * 2) u))

  -- so a whole number's bounds are kept
  le_closest : (v : ℕ) → v * u ≤ n → v ≤ closest n u
  le_closest v h =
      let a : 2 * v * u ≤ (2 * closest n u + 1) * u = omega (arith, closest_half.1) in
      let b : 2 * v ≤ 2 * closest n u + 1 = le_of_mul-le-mul_right a U in
      omega arith

  closest_le : (v : ℕ) → n ≤ v * u → closest n u ≤ v
  closest_le v h =
      let a : 2 * closest n u * u ≤ (2 * v + 1) * u = omega (arith, closest_half.0) in
      let b : 2 * closest n u ≤ 2 * v + 1 = le_of_mul-le-mul_right a U in
      omega arith

-- ---- the digits that are dropped
module _ (n c : ℕ) (C : 0 < c) where
  -- only where there are too many
  drop_le : (j : ℕ) → n < 2 ^ (24 + j) * c → drop 24 n c ≤ j
  drop_le j h = above_24 (size (n / c)) (size-le (n / c) (24 + j) ((div-lt_iff_lt-mul C).1 h))
    where
      above_24 : (z : ℕ) → z ≤ 24 + j → z - 24 ≤ j
      above_24 z h = omega arith

  -- and enough of them
  pub drop_enough : n < 2 ^ (24 + drop 24 n c) * c
  drop_enough = (div-lt_iff_lt-mul C).0 (lt_of_lt_of_le (size-lt (n / c)) (pow_mono (first (size (n / c)))))
    where
      first : (z : ℕ) → z ≤ 24 + (z - 24)
      first z = omega arith

  -- and then the 24 first are all there
  drop_full : (j : ℕ) → j < drop 24 n c → 2 ^ 23 * (c * 2 ^ drop 24 n c) ≤ n
  drop_full j h =
      let k = drop 24 n c in
      let a : 2 ^ (23 + k) * c ≤ n = (le-div_iff_mul-le C).0 (size_reaches (n / c) (23 + k) (more (size (n / c)) h)) in
      le_trans (le_of_eq (sym (mul_assoc (2 ^ 23) c (2 ^ k)) ∙ mul_right_comm (2 ^ 23) c (2 ^ k) ∙ ap (λ (x : ℕ). x * c) (sym (pow-add 2 23 k)))) a
    where
      more : (z : ℕ) → j < z - 24 → 23 + (z - 24) < z
      more z h = omega arith

  -- a place is no larger than the number
  place_le : c ≤ n → c * 2 ^ drop 24 n c ≤ n
  place_le h =
      let w = n / c in
      let p : 0 < w = (le-div_iff_mul-le C).1 (le_trans (le_of_eq (itself c)) h) in
      le_trans (le_of_eq (mul_comm c (2 ^ drop 24 n c))) ((le-div_iff_mul-le C).0 (size_reaches w (drop 24 n c) (fewer (size w) (some w (size w) p (size-lt w)))))
    where
      itself : (c : ℕ) → 1 * c ≡ c
      itself c = omega arith

      some : (w z : ℕ) → 0 < w → w < 2 ^ z → 0 < z
      some w zero h k = absurd (omega arith)
      some w (suc z) h k = omega arith

      fewer : (z : ℕ) → 0 < z → z - 24 < z
      fewer z h = omega arith

-- ---- the rounded number, in places and at the fraction's scale
rounded_places : (n c : ℕ) → rounded n c * c ≡ closest n (c * 2 ^ drop 24 n c) * (c * 2 ^ drop 24 n c)
unfolding rounded
rounded_places n c = let k = drop 24 n c in mul_assoc (kept 24 n c) (2 ^ k) c ∙ ap (λ (x : ℕ). kept 24 n c * x) (mul_comm (2 ^ k) c)

in_places : (q j k c : ℕ) → k ≤ j → q * 2 ^ j * c ≡ q * 2 ^ (j - k) * (c * 2 ^ k)
in_places q j k c h = ap (λ (x : ℕ). x * c) (multiple q k j h) ∙ mul_assoc (q * 2 ^ (j - k)) (2 ^ k) c ∙ ap (λ (x : ℕ). q * 2 ^ (j - k) * x) (mul_comm (2 ^ k) c)

digits_lt : (q j c : ℕ) → 0 < c → q < 2 ^ 24 → q * 2 ^ j * c < 2 ^ (24 + j) * c
digits_lt q j c C h = mul-lt-mul_of_pos_right (lt_of_lt_of_le (mul-lt-mul_of_pos_right h (pow_pos j)) (le_of_eq (sym (pow-add 2 24 j)))) C

module _ (n c : ℕ) (C : 0 < c) where
  -- what is at least an f32 is rounded to at least that
  pub le_rounded : (q j : ℕ) → q < 2 ^ 24 → q * 2 ^ j * c ≤ n → q * 2 ^ j ≤ rounded n c
  unfolding rounded
  le_rounded q j Q h = go (dec_le (drop 24 n c) j)
    where
      next : (k : ℕ) → j < k → 24 + j ≤ 23 + k
      next k h = omega arith

      go : Dec (drop 24 n c ≤ j) → q * 2 ^ j ≤ kept 24 n c * 2 ^ drop 24 n c
      go (yes l) =
          let k = drop 24 n c in
          let a : q * 2 ^ (j - k) ≤ closest n (c * 2 ^ k) = le_closest n (c * 2 ^ k) (mul-pos C (pow_pos k)) (q * 2 ^ (j - k)) (le_trans (le_of_eq (sym (in_places q j k c l))) h) in
          le_trans (le_of_eq (multiple q k j l)) (mul-le-mul_right (2 ^ k) a)
      go (no f) =
          let k = drop 24 n c in
          let l : j < k = lt_of_not-le f in
          let a : 2 ^ 23 ≤ closest n (c * 2 ^ k) = le_closest n (c * 2 ^ k) (mul-pos C (pow_pos k)) (2 ^ 23) (drop_full n c C j l) in
          le_trans (mul-le-mul_right (2 ^ j) (le_of_lt Q))
          (le_trans (le_of_eq (sym (pow-add 2 24 j))) (le_trans (pow_mono (next k l)) (le_trans (le_of_eq (pow-add 2 23 k)) (mul-le-mul_right (2 ^ k) a))))

  -- what is at most an f32 is rounded to at most that
  pub rounded_le : (q j : ℕ) → q < 2 ^ 24 → n ≤ q * 2 ^ j * c → rounded n c ≤ q * 2 ^ j
  unfolding rounded
  rounded_le q j Q h =
      let k = drop 24 n c in
      let l : k ≤ j = drop_le n c C j (lt_of_le_of_lt h (digits_lt q j c C Q)) in
      let a : closest n (c * 2 ^ k) ≤ q * 2 ^ (j - k) = closest_le n (c * 2 ^ k) (mul-pos C (pow_pos k)) (q * 2 ^ (j - k)) (le_trans h (le_of_eq (in_places q j k c l))) in
      le_trans (mul-le-mul_right (2 ^ k) a) (le_of_eq (sym (multiple q k j l)))

  -- the error is at most half a place
  pub rounded_error : (j : ℕ) → n < 2 ^ (24 + j) * c → (2 * (rounded n c * c) ≤ 2 * n + 2 ^ j * c) × (2 * n ≤ 2 * (rounded n c * c) + 2 ^ j * c)
  rounded_error j h =
      let k = drop 24 n c in
      let u = c * 2 ^ k in
      let b = closest_half n u (mul-pos C (pow_pos k)) in
      let l : u ≤ 2 ^ j * c = le_trans (le_of_eq (mul_comm c (2 ^ k))) (mul-le-mul_right c (pow_mono (drop_le n c C j h))) in
      wider (rounded n c * c) (closest n u * u) u (2 ^ j * c) (rounded_places n c) b.0 b.1 l
    where
      wider : (x y u v : ℕ) → x ≡ y → 2 * y ≤ 2 * n + u → 2 * n ≤ 2 * y + u → u ≤ v → (2 * x ≤ 2 * n + v) × (2 * n ≤ 2 * x + v)
      wider x y u v s a b l = (omega arith, omega arith)

  -- and no more than half of the number is lost
  pub le_twice_rounded : c ≤ n → n ≤ 2 * (rounded n c * c)
  le_twice_rounded h =
      let k = drop 24 n c in
      let u = c * 2 ^ k in
      at_most (rounded n c * c) (closest n u * u) u (rounded_places n c) (closest_half n u (mul-pos C (pow_pos k))).1 (place_le n c C h)
    where
      at_most : (x y u : ℕ) → x ≡ y → 2 * n ≤ 2 * y + u → u ≤ n → n ≤ 2 * x
      at_most x y u s b l = omega arith

-- what is at least a rounded number, which is an f32, is rounded to at least that
module _ (n c m d : ℕ) (C : 0 < c) (D : 0 < d) where
  abbrev k : ℕ
  k = drop 24 n c

  digits_le : kept 24 n c ≤ 2 ^ 24
  digits_le =
      closest_le n (c * 2 ^ k) (mul-pos C (pow_pos k)) (2 ^ 24)
      (le_trans (le_of_lt (drop_enough n c C)) (le_of_eq (ap (λ (x : ℕ). x * c) (pow-add 2 24 k) ∙ mul_assoc (2 ^ 24) (2 ^ k) c ∙ ap (λ (x : ℕ). 2 ^ 24 * x) (mul_comm (2 ^ k) c))))

  pub le_rounded_again : rounded n c * d ≤ m → rounded n c ≤ rounded m d
  unfolding rounded
  le_rounded_again h = go (dec_le (2 ^ 24) (kept 24 n c))
    where
      -- rounded up to a digit more
      up : kept 24 n c * 2 ^ k ≡ 1 * 2 ^ (24 + k) → kept 24 n c * 2 ^ k ≤ rounded m d
      up e = le_trans (le_of_eq e) (le_rounded m d D 1 (24 + k) (lit< tt) (le_trans (le_of_eq (ap (λ (x : ℕ). x * d) (sym e))) h))

      go : Dec (2 ^ 24 ≤ kept 24 n c) → kept 24 n c * 2 ^ k ≤ rounded m d
      go (yes l) = up (ap (λ (x : ℕ). x * 2 ^ k) (le_antisymm digits_le l) ∙ sym (pow-add 2 24 k) ∙ sym (one-mul (2 ^ (24 + k))))
      go (no f) = le_rounded m d D (kept 24 n c) k (lt_of_not-le f) h
