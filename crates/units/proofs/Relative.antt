-- What rounding to f32 keeps of a fraction n / c, relatively: the error of m, which is n / c rounded, is at most one part in 2 ^ 24 of the number, or a
-- half where m has less than 24 digits. `Rel` has it for sums and for squares, so that a sum of squares needs no cross terms. Assumes nothing.
use mathlib.Core.Path.{◌≡◌, refl, sym, ap, ◌∙◌, subst}
use Prim.Native.Nat.{ℕ, zero, suc, ◌+◌, ◌-◌, ◌*◌, ◌/◌, ◌^◌, ◌≤◌, ◌<◌}
use native.Mathlib.Nat.{le_trans, le_of_eq, le_of_lt, lt_of_not-le, mul_assoc, mul-le-mul, mul-le-mul_right, le_of_mul-le-mul_right, mul-pos, le-div_iff_mul-le}
use native.Mathlib.Decide.{dec_le}
use native.Mathlib.Omega.{arith}
use lib.Dec.{lit<}
use lib.Pow.{pow-add}
use lib.Ieee.{size}
use lib.Ieee.Digits.{size_reaches}
use lib.Ieee.Order.{drop}
use Rattle.rounding.proofs.Rounding.{rounded, drop_enough, rounded_le, rounded_error}

-- m times c is n, rounded to 24 digits or to a whole m: for sums, and for squares
pub record Rel (m c n : ℕ) : Type 0 where
  pub high : 16777216 * (m * c) ≤ 16777217 * n + 8388608 * c
  pub low : 16777215 * n ≤ 16777216 * (m * c) + 8388608 * c
  pub square_high : 16777216 * (m * c * (m * c)) ≤ 16777219 * (n * n) + 16777216 * (70368744177664 * (c * c))
  pub square_low : 16777214 * (n * n) ≤ 16777216 * (m * c * (m * c)) + 16777216 * (70368744177664 * (c * c))

-- ---- squares of what is within a part
squares_high : (x n : ℕ) → 16777216 * x ≤ 16777217 * n → 16777216 * (x * x) ≤ 16777219 * (n * n)
squares_high x n h = omega (arith, mul-le-mul h h)

squares_low : (x n : ℕ) → 16777215 * n ≤ 16777216 * x → 16777214 * (n * n) ≤ 16777216 * (x * x)
squares_low x n h = omega (arith, mul-le-mul h h)

square_small : (x c : ℕ) → x ≤ 8388608 * c → x * x ≤ 70368744177664 * (c * c)
square_small x c h = omega (arith, mul-le-mul h h)

-- a relative error where n is large; else an error of half, and no more than 2 ^ 23
pub large : (m c n : ℕ) → 16777216 * (m * c) ≤ 16777217 * n → 16777215 * n ≤ 16777216 * (m * c) → Rel m c n
large m c n h k = record {
  high = omega (arith);
  low = omega (arith);
  square_high = let s = squares_high (m * c) n h in more (16777216 * (m * c * (m * c))) (16777219 * (n * n)) (16777216 * (70368744177664 * (c * c))) s;
  square_low = let s = squares_low (m * c) n k in more (16777214 * (n * n)) (16777216 * (m * c * (m * c))) (16777216 * (70368744177664 * (c * c))) s;
}
  where
    more : (x y z : ℕ) → x ≤ y → x ≤ y + z
    more x y z h = omega arith

pub small : (m c n : ℕ) → n ≤ 8388608 * c → m ≤ 8388608 → 2 * (m * c) ≤ 2 * n + c → 2 * n ≤ 2 * (m * c) + c → Rel m c n
small m c n l b h k = record {
  high = plain_high (m * c) n c h;
  low = plain_low (m * c) n c k;
  square_high = above (m * c * (m * c)) (n * n) (70368744177664 * (c * c)) (square_small (m * c) c (mul-le-mul_right c b));
  square_low = under (m * c * (m * c)) (n * n) (70368744177664 * (c * c)) (square_small n c l);
}
  where
    plain_high : (x n c : ℕ) → 2 * x ≤ 2 * n + c → 16777216 * x ≤ 16777217 * n + 8388608 * c
    plain_high x n c h = omega arith

    plain_low : (x n c : ℕ) → 2 * n ≤ 2 * x + c → 16777215 * n ≤ 16777216 * x + 8388608 * c
    plain_low x n c h = omega arith

    above : (x y z : ℕ) → x ≤ z → 16777216 * x ≤ 16777219 * y + 16777216 * z
    above x y z h = omega arith

    under : (x y z : ℕ) → y ≤ z → 16777214 * y ≤ 16777216 * x + 16777216 * z
    under x y z h = omega arith

-- at another scale
pub cancel : (m c n k : ℕ) → 0 < k → Rel m (c * k) (n * k) → Rel m c n
cancel m c n k K R = record {
  high = le_of_mul-le-mul_right (one_high m c n k R.high) K;
  low = le_of_mul-le-mul_right (one_low m c n k R.low) K;
  square_high = le_of_mul-le-mul_right (two_high m c n k R.square_high) (mul-pos K K);
  square_low = le_of_mul-le-mul_right (two_low m c n k R.square_low) (mul-pos K K);
}
  where
    one_high : (m c n k : ℕ) → 16777216 * (m * (c * k)) ≤ 16777217 * (n * k) + 8388608 * (c * k) → 16777216 * (m * c) * k ≤ (16777217 * n + 8388608 * c) * k
    one_high m c n k h = omega arith

    one_low : (m c n k : ℕ) → 16777215 * (n * k) ≤ 16777216 * (m * (c * k)) + 8388608 * (c * k) → 16777215 * n * k ≤ (16777216 * (m * c) + 8388608 * c) * k
    one_low m c n k h = omega arith

    two_high : (m c n k : ℕ) → 16777216 * (m * (c * k) * (m * (c * k))) ≤ 16777219 * (n * k * (n * k)) + 16777216 * (70368744177664 * (c * k * (c * k)))
        → 16777216 * (m * c * (m * c)) * (k * k) ≤ (16777219 * (n * n) + 16777216 * (70368744177664 * (c * c))) * (k * k)
    two_high m c n k h = omega arith

    two_low : (m c n k : ℕ) → 16777214 * (n * k * (n * k)) ≤ 16777216 * (m * (c * k) * (m * (c * k))) + 16777216 * (70368744177664 * (c * k * (c * k)))
        → 16777214 * (n * n) * (k * k) ≤ (16777216 * (m * c * (m * c)) + 16777216 * (70368744177664 * (c * c))) * (k * k)
    two_low m c n k h = omega arith

-- ---- the place of the last digit kept
many : (z j : ℕ) → z - 24 ≡ suc j → 23 + suc j < z
many z j h = omega arith

module _ (n c : ℕ) (C : 0 < c) where
  -- the 24 digits kept are all there, where a digit is dropped
  full : (j : ℕ) → drop 24 n c ≡ suc j → 2 ^ (23 + suc j) * c ≤ n
  full j e = (le-div_iff_mul-le C).0 (size_reaches (n / c) (23 + suc j) (many (size (n / c)) j e))

  pub relative : Rel (rounded n c) c n
  relative = go (drop 24 n c) refl
    where
      place : (j : ℕ) → 2 ^ (23 + j) * c ≡ 8388608 * (2 ^ j * c)
      place j = ap (λ (x : ℕ). x * c) (pow-add 2 23 j) ∙ mul_assoc (2 ^ 23) (2 ^ j) c

      within : (x p : ℕ) → 8388608 * p ≤ n → 2 * x ≤ 2 * n + p → 2 * n ≤ 2 * x + p → (16777216 * x ≤ 16777217 * n) × (16777215 * n ≤ 16777216 * x)
      within x p l h k = (omega arith, omega arith)

      at : (k : ℕ) → drop 24 n c ≡ k → n < 2 ^ (24 + k) * c
      at k e = subst (λ (i : ℕ). n < 2 ^ (24 + i) * c) e (drop_enough n c C)

      one_c : (x y c : ℕ) → 2 * x ≤ 2 * y + 2 ^ 0 * c → 2 * x ≤ 2 * y + c
      one_c x y c h = omega arith

      scaled : (p : ℕ) → 8388608 * p ≤ n → (2 * (rounded n c * c) ≤ 2 * n + p) × (2 * n ≤ 2 * (rounded n c * c) + p) → Rel (rounded n c) c n
      scaled p l h = let w = within (rounded n c * c) p l h.0 h.1 in large (rounded n c) c n w.0 w.1

      plain : (2 * (rounded n c * c) ≤ 2 * n + c) × (2 * n ≤ 2 * (rounded n c * c) + c) → Dec (8388608 * c ≤ n) → Rel (rounded n c) c n
      plain h (yes l) = scaled c l h
      plain h (no f) =
          let l : n ≤ 8388608 * c = le_of_lt (lt_of_not-le f) in
          small (rounded n c) c n l (rounded_le n c C 8388608 0 (lit< tt) l) h.0 h.1

      go : (k : ℕ) → drop 24 n c ≡ k → Rel (rounded n c) c n
      go zero e = let h = rounded_error n c C 0 (at 0 e) in plain (one_c (rounded n c * c) n c h.0, one_c n (rounded n c * c) c h.1) (dec_le (8388608 * c) n)
      go (suc j) e = scaled (2 ^ suc j * c) (le_trans (le_of_eq (sym (place (suc j)))) (full j e)) (rounded_error n c C (suc j) (at (suc j) e))
