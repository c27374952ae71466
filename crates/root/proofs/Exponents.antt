-- The arithmetic of `operand_of`: m * 2 ^ k units, times 2 ^ 149, as n * 2 ^ g * 2 ^ g for an n of 47 or 48 digits. Assumes nothing.
use mathlib.Core.Path.{◌≡◌, sym, ap, ◌∙◌}
use Prim.Native.Nat.{ℕ, zero, suc, ◌+◌, ◌-◌, ◌*◌, ◌/◌, ◌%◌, ◌^◌, ◌≤◌, ◌<◌}
use native.Mathlib.Nat.{le_trans, le_of_eq, lt_of_lt_of_le, mul_assoc, mul-le-mul_right, mod-eq_of_lt, lt_of_not-le, not-le_of_lt, suc-mul}
use native.Mathlib.Omega.{arith}
use mathlib.Core.Bool.{false}
use lib.Dec.{lit≤}
use lib.Pow.{pow-add, pow_mono}
use lib.Count.{count_leading_zeros, leading_top}
use lib.Ieee.{binary32, of_bits}
use lib.Ieee.Exact.{HasValue}
use Rattle.root.specs.Compute.{exponent, operand}
use Rattle.root.specs.Steps.{Operands, Scaled}
use Rattle.root.proofs.Patterns.{Split, split_is}

-- ---- powers of two, gathered and spread
gathered : (m a b c d : ℕ) → m * 2 ^ (a + b + c + (d + d)) ≡ m * 2 ^ a * 2 ^ b * 2 ^ c * (2 ^ d * 2 ^ d)
gathered m a b c d = rw (pow-add 2 (a + b + c) (d + d), pow-add 2 (a + b) c, pow-add 2 a b, pow-add 2 d d) (omega arith)

spread : (m k u : ℕ) → m * 2 ^ k * 2 ^ u ≡ m * 2 ^ (k + u)
spread m k u = mul_assoc m (2 ^ k) (2 ^ u) ∙ ap (λ (x : ℕ). m * x) (sym (pow-add 2 k u))

same : (m k u z b v : ℕ) → k + u ≡ z + b + v % 2 + (v / 2 + v / 2) → m * 2 ^ k * 2 ^ u ≡ m * 2 ^ z * 2 ^ b * 2 ^ (v % 2) * (2 ^ (v / 2) * 2 ^ (v / 2))
same m k u z b v e = spread m k u ∙ ap (λ (x : ℕ). m * 2 ^ x) e ∙ gathered m z b (v % 2) (v / 2)

-- ---- m's first digit stands at place j, and z zeros before it
module _ (m z j : ℕ) (places : z + suc j ≡ 32) (first : 2 ^ j ≤ m) (last : m < 2 ^ suc j) (small : m < 16777216) where
  zeros : 8 ≤ z
  zeros = go (lt_of_not-le (λ (g : 24 ≤ j). not-le_of_lt small (le_trans (pow_mono g) first)))
    where
      go : j < 24 → 8 ≤ z
      go h = omega arith

  top_low : 2147483648 ≤ m * 2 ^ z
  top_low =
      let e : 31 ≤ j + z = omega arith in
      le_trans (pow_mono e) (le_trans (le_of_eq (pow-add 2 j z)) (mul-le-mul_right (2 ^ z) first))

  top_high : m * 2 ^ z ≤ 4294967040
  top_high =
      let e : suc j + z ≤ 32 = omega arith in
      let h : m * 2 ^ z + 2 ^ z ≤ 2 ^ 32 =
      le_trans (le_of_eq (sym (suc-mul m (2 ^ z)))) (le_trans (mul-le-mul_right (2 ^ z) last) (le_trans (le_of_eq (sym (pow-add 2 (suc j) z))) (pow_mono e))) in
      omega (arith, pow_mono zeros)

  -- at least 8 zeros are put behind m
  top_zeros : m * 2 ^ z % 256 ≡ 0
  top_zeros = go (z - 8) (let d = zeros in omega arith)
    where
      go : (y : ℕ) → z ≡ y + 8 → m * 2 ^ z % 256 ≡ 0
      go y e = rw (e, pow-add 2 y 8) (omega arith)

  scaled : (b k v : ℕ) → HasValue (of_bits binary32 b) false (m * 2 ^ k) (2 ^ 149) → k ≤ 253 → v ≡ k + 134 - z
      → Scaled b (m * 2 ^ z * 32768 * 2 ^ (v % 2)) (v / 2)
  scaled b k v value h e =
      let d = zeros in
      record { v = m * 2 ^ k; value = value; same = same m k 149 z 15 v (omega arith); operands = operands (v % 2) (omega arith) (top_low, top_high, top_zeros); most = omega arith }
    where
      operands : (o : ℕ) → o < 2 → (2147483648 ≤ m * 2 ^ z) × (m * 2 ^ z ≤ 4294967040) × (m * 2 ^ z % 256 ≡ 0) → Operands (m * 2 ^ z * 32768 * 2 ^ o)
      operands zero h t = record { low = omega arith; high = omega arith; zeros = omega arith }
      operands (suc zero) h t = record { low = omega arith; high = omega arith; zeros = omega arith }
      operands (suc (suc o)) h t = absurd (no o h)
        where
          no : (o : ℕ) → suc (suc o) < 2 → ⊥
          no o h = omega arith

-- ---- by the count of leading zeros
pub counted : (b m k : ℕ) → Split b m k → Scaled b (operand m k) (exponent m k / 2)
counted b m k P =
    let t = leading_top 32 m P.pos (lt_of_lt_of_le P.small (lit≤ tt)) in
    scaled m (count_leading_zeros 32 m) t.0 t.1 t.2 t.3 P.small b k (exponent m k) P.value P.low (omega arith)

-- ---- of the pattern b, whose exponent's field is one more than k, or 0. Of the machine's shifts none drops anything
module _ (b k : ℕ) (e : k ≡ b / 8388608 - 1) (pos : 0 < b) (finite : b < 2139095040) where
  abbrev digits : ℕ
  digits = b - k * 8388608 % 4294967296

  split : Split b digits k
  split = let d : digits ≡ b - k * 8388608 = omega arith in rw (d, e) (split_is b pos finite)

  pub zeros_at_most : count_leading_zeros 32 digits ≤ 31
  zeros_at_most = omega (arith, (leading_top 32 digits split.pos (lt_of_lt_of_le split.small (lit≤ tt))).1)

  abbrev odd : ℕ
  odd = exponent digits k - exponent digits k / 2 * 2 % 4294967296

  pub pattern_scaled : Scaled b (digits * 2 ^ (count_leading_zeros 32 digits + 15 + odd) % 2 ^ 64) (exponent digits k / 2)
  pattern_scaled =
      let z = count_leading_zeros 32 digits in
      let s = counted b digits k split in
      let h = s.operands.high in
      let o : odd ≡ exponent digits k % 2 = omega arith in
      let same : digits * 2 ^ (z + 15 + odd) ≡ operand digits k = rw (o, pow-add 2 (z + 15) (exponent digits k % 2), pow-add 2 z 15) (omega arith) in
      let fits : operand digits k < 2 ^ 64 = omega arith in
      rw (same, mod-eq_of_lt fits) s
