-- More that rounding n / c to f32 keeps: the order (`rounded_mono`); a number that is rounded already, so that nothing below it is rounded above it
-- (`rounded_again`); and at a tie the even number (`rounded_tie`). By way of how many digits are kept, and that the nearest of an even number and half a
-- place more is that number. Assumes nothing.
use mathlib.Core.Path.{◌≡◌, refl, sym, ap, ◌∙◌, subst}
use mathlib.Core.Logic.{inl, inr}
use Prim.Native.Nat.{ℕ, suc, ◌+◌, ◌-◌, ◌*◌, ◌/◌, ◌%◌, ◌^◌, ◌≤◌, ◌<◌, zero-le, compare, Ordering}
use native.Mathlib.Nat.{le_trans, le_of_eq, le_of_lt, lt_of_not-le, lt_of_lt_of_le, lt_of_le_of_lt, eq-or-lt_of_le, mul_assoc, mul_right_comm, mul-le-mul_right, le_of_mul-le-mul_right, mul-pos, div-add-mod', le-div_iff_mul-le, div-lt_iff_lt-mul, div-div-eq-div-mul}
use native.Mathlib.Decide.{dec_le}
use native.Mathlib.Omega.{arith}
use mathlib.Core.Bool.{not}
use lib.Dec.{T, is_le, leb→le, nleb→lt, lit<}
use lib.Pow.{pow-add, pow_pos, pow_mono}
use lib.Ieee.{size, nearest}
use lib.Ieee.Digits.{size-lt, size-le, size_reaches}
use lib.Ieee.Fits.{kept-lt, nearest-le}
use lib.Ieee.Nearest.{closest, closest_mono, nearest-ge, div_mono}
use lib.Ieee.Order.{drop, kept}
use Rattle.rounding.proofs.Rounding.{rounded, rounded_le}

-- ---- the order is kept
size_mono : (a b : ℕ) → a ≤ b → size a ≤ size b
size_mono a b h = size-le a (size b) (lt_of_le_of_lt h (size-lt b))

same_drop : (k a b c d : ℕ) → 0 < b → 0 < d → a * d ≤ c * b → closest a (b * 2 ^ k) * 2 ^ k ≤ closest c (d * 2 ^ k) * 2 ^ k
same_drop k a b c d B D h =
    mul-le-mul_right (2 ^ k)
    (closest_mono a (b * 2 ^ k) c (d * 2 ^ k) (mul-pos B (pow_pos k)) (mul-pos D (pow_pos k))
    (le_trans (le_of_eq (sym (mul_assoc a d (2 ^ k)))) (le_trans (mul-le-mul_right (2 ^ k) h) (le_of_eq (mul_assoc c b (2 ^ k))))))

kept_le : (n den : ℕ) → kept 24 n den ≤ 2 ^ 24
kept_le n den =
    let k = drop 24 n den in
    let u = den * 2 ^ k in
    le_trans (nearest-le (n / u) (compare (n % u * 2) u)) (subst (λ (x : ℕ). x < 2 ^ 24) (div-div-eq-div-mul n den (2 ^ k)) (kept-lt 24 (n / den)))

all_in_use : (z : ℕ) → 0 < z - 24 → 23 + (z - 24) < z
all_in_use z h = omega arith

kept_ge : (n den : ℕ) → 0 < drop 24 n den → 2 ^ 23 ≤ kept 24 n den
kept_ge n den K =
    let k = drop 24 n den in
    let u = den * 2 ^ k in
    let w = n / den in
    let a : 2 ^ 23 * 2 ^ k ≤ w = le_trans (le_of_eq (sym (pow-add 2 23 k))) (size_reaches w (23 + k) (all_in_use (size w) K)) in
    le_trans (subst (λ (x : ℕ). 2 ^ 23 ≤ x) (div-div-eq-div-mul n den (2 ^ k)) ((le-div_iff_mul-le (pow_pos k)).1 a)) (nearest-ge (n / u) (compare (n % u * 2) u))

fewer : (x y : ℕ) → x ≤ y → x - 24 ≤ y - 24
fewer x y h = omega arith

room : (j k : ℕ) → j < k → 24 + j ≤ 23 + k
room j k h = omega arith

pub rounded_mono : (a b c d : ℕ) → 0 < b → 0 < d → a * d ≤ c * b → rounded a b ≤ rounded c d
unfolding rounded
rounded_mono a b c d B D h =
    let j = drop 24 a b in
    let k = drop 24 c d in
    elim (eq-or-lt_of_le (fewer (size (a / b)) (size (c / d)) (size_mono (a / b) (c / d) (div_mono a b c d B D h)))) [
      | inl e ↦ subst (λ (x : ℕ). closest a (b * 2 ^ x) * 2 ^ x ≤ kept 24 c d * 2 ^ k) (sym e) (same_drop k a b c d B D h)
      | inr l ↦
          le_trans (mul-le-mul_right (2 ^ j) (kept_le a b))
          (le_trans (le_of_eq (sym (pow-add 2 24 j)))
          (le_trans (pow_mono (room j k l))
          (le_trans (le_of_eq (pow-add 2 23 k)) (mul-le-mul_right (2 ^ k) (kept_ge c d (lt_of_le_of_lt zero-le l))))))
    ]

-- ---- what is at most a rounded number is rounded to at most that
twice : (k : ℕ) → 16777216 * 2 ^ k ≡ 8388608 * 2 ^ suc k
twice k = omega arith

pub rounded_again : (n c m d : ℕ) → 0 < d → m ≤ rounded n c * d → rounded m d ≤ rounded n c
unfolding rounded
rounded_again n c m d D h = go (kept 24 n c) (drop 24 n c) (kept_le n c) h
  where
    go : (q k : ℕ) → q ≤ 2 ^ 24 → m ≤ q * 2 ^ k * d → kept 24 m d * 2 ^ drop 24 m d ≤ q * 2 ^ k
    go q k l h =
        elim (eq-or-lt_of_le l) [
          | inl e ↦ subst (λ (x : ℕ). kept 24 m d * 2 ^ drop 24 m d ≤ x) (sym (ap (λ (x : ℕ). x * 2 ^ k) e ∙ twice k))
              (rounded_le m d D 8388608 (suc k) (lit< tt) (subst (λ (x : ℕ). m ≤ x * d) (ap (λ (x : ℕ). x * 2 ^ k) e ∙ twice k) h))
          | inr s ↦ rounded_le m d D q k s h
        ]

-- ---- a tie goes to the even number: nothing that is at most half a place above v is rounded above it, where v is even
module _ (n u v : ℕ) (U : 0 < u) (even : v % 2 ≡ 0) (h : 2 * n ≤ (2 * v + 1) * u) where
  pick : (q r : ℕ) → q * u + r ≡ n → (o : Ordering) → (T (is_le o) → r * 2 ≤ u) → (T (not (is_le o)) → u < r * 2) → nearest q o ≤ v
  pick q r e o f g = go (dec_le v q) o g
    where
      few : q ≤ v
      few =
          let a : 2 * q * u ≤ (2 * v + 1) * u = omega arith in
          let b : 2 * q ≤ 2 * v + 1 = le_of_mul-le-mul_right a U in
          omega arith

      is_it : v ≤ q → q ≡ v
      is_it l = let m = few in omega arith

      half : v ≤ q → r * 2 ≤ u
      half l = let m : q ≡ v = is_it l in let k : q * u ≡ v * u = ap (λ (x : ℕ). x * u) m in omega arith

      go : Dec (v ≤ q) → (o : Ordering) → (T (not (is_le o)) → u < r * 2) → nearest q o ≤ v
      go (yes l) Ordering.lt g = few
      go (yes l) Ordering.eq g = let m = is_it l in omega arith
      go (yes l) Ordering.gt g = let a = g tt in let b = half l in absurd (omega arith)
      go (no l) o g = let m : q < v = lt_of_not-le l in le_trans (nearest-le q o) m

  closest_even : closest n u ≤ v
  closest_even = pick (n / u) (n % u) (div-add-mod' n u) (compare (n % u * 2) u) (leb→le (n % u * 2) u) (nleb→lt (n % u * 2) u)

-- 2 ^ 23 places, with half a place more
tie_drop : (n c j : ℕ) → 0 < c → 2 ^ 23 * (c * 2 ^ j) ≤ n → n < 2 ^ (24 + j) * c → drop 24 n c ≡ j
tie_drop n c j C l h =
    let w = n / c in
    let a : size w ≤ 24 + j = size-le w (24 + j) ((div-lt_iff_lt-mul C).1 h) in
    let b : 2 ^ (23 + j) ≤ w = (le-div_iff_mul-le C).1 (le_trans (le_of_eq (ap (λ (x : ℕ). x * c) (pow-add 2 23 j) ∙ mul_right_comm (2 ^ 23) (2 ^ j) c ∙ mul_assoc (2 ^ 23) c (2 ^ j))) l) in
    exact (size w) a (go w b (dec_le (size w) (23 + j)))
  where
    go : (w : ℕ) → 2 ^ (23 + j) ≤ w → Dec (size w ≤ 23 + j) → 23 + j < size w
    go w b (yes s) = absurd (clash w (2 ^ (23 + j)) (2 ^ size w) b (size-lt w) (pow_mono s))
      where
        clash : (x y z : ℕ) → y ≤ x → x < z → z ≤ y → ⊥
        clash x y z a b c = omega arith
    go w b (no s) = lt_of_not-le s

    exact : (z : ℕ) → z ≤ 24 + j → 23 + j < z → z - 24 ≡ j
    exact z a b = omega arith

pub rounded_tie : (n c j : ℕ) → 0 < c → 2 * n ≤ 16777217 * (c * 2 ^ j) → rounded n c ≤ 8388608 * 2 ^ j
unfolding rounded
rounded_tie n c j C h = go (dec_le n (8388608 * 2 ^ j * c))
  where
    u : ℕ
    u = c * 2 ^ j

    U : 0 < u
    U = mul-pos C (pow_pos j)

    below : (x y : ℕ) → 0 < y → 2 * x ≤ 16777217 * y → x < 16777216 * y
    below x y p h = omega arith

    go : Dec (n ≤ 8388608 * 2 ^ j * c) → kept 24 n c * 2 ^ drop 24 n c ≤ 8388608 * 2 ^ j
    go (yes l) = rounded_le n c C 8388608 j (lit< tt) l
    go (no f) =
        let l : 8388608 * 2 ^ j * c < n = lt_of_not-le f in
        let a : 8388608 * (c * 2 ^ j) ≤ n = le_trans (le_of_eq (turn 8388608 c (2 ^ j))) (le_of_lt l) in
        let b : n < 2 ^ (24 + j) * c = lt_of_lt_of_le (below n (c * 2 ^ j) U h) (le_of_eq (turn 16777216 c (2 ^ j) ∙ ap (λ (x : ℕ). x * c) (sym (pow-add 2 24 j)))) in
        subst (λ (k : ℕ). closest n (c * 2 ^ k) * 2 ^ k ≤ 8388608 * 2 ^ j) (sym (tie_drop n c j C a b))
        (mul-le-mul_right (2 ^ j) (closest_even n (c * 2 ^ j) 8388608 U refl h))
      where
        turn : (q c p : ℕ) → q * (c * p) ≡ q * p * c
        turn q c p = omega arith
