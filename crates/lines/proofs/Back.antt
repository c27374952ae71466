-- What is printed is read back: from its digits a number, and from its eight hex digits any f32. Assumes nothing.
use Prim.Native.Nat.{ℕ, zero, suc, ◌+◌, ◌-◌, ◌*◌, ◌/◌, ◌%◌, ◌^◌, ◌≤◌, ◌<◌}
use mathlib.Core.Path.{◌≡◌, refl, sym, ap, ◌∙◌}
use mathlib.Core.Bool.{Bool, true, false, ◌&&◌}
use mathlib.Core.List.{List, [], ◌∷◌, ◌++◌}
use native.Mathlib.Omega.{arith}
use native.Mathlib.Decide.{dec_le}
use native.Mathlib.Nat.{pow-zero, pow-suc, div-lt_iff_lt-mul, div-add-mod', mod-lt, lt_of_not-le, lt_of_lt_of_le}
use lib.Dec.{T, ltb, lit<, lit≤}
use lib.Ieee.{Float, binary32, fits, of_bits, to_bits}
use lib.Ieee.Bits.{of_bits-to_bits, to_bits-lt}
use borrow.Author.Tests.{lt-ltb}
use Rattle.lines.specs.Digits.{digit_of, are_digits, spelt, glyph_of, digits_of, places_up_to, decimal_of}
use Rattle.lines.specs.Floats.{float_hex}
use Rattle.lines.proofs.Placing.{glyph_low, glyph_high, one_fewer, places_one, places_more}
use Rattle.lines.proofs.Spelling.{digit_low, digit_high}

-- ---- digits
digit_glyph : (d : ℕ) → d < 16 → digit_of (glyph_of d) ≡ d
digit_glyph d h = go (dec_le 10 d)
  where
    go : Dec (10 ≤ d) → digit_of (glyph_of d) ≡ d
    go (yes m) = rw (← glyph_high d m) (sym (digit_high (65 + (d - 10)) (omega arith) (omega arith)) ∙ omega arith)
    go (no f) =
        let l : d < 10 = lt_of_not-le f in
        rw (← glyph_low d l) (sym (digit_low (48 + d) (omega arith) (omega arith)) ∙ omega arith)

spelt_append : (base n : ℕ) (v w : List ℕ) → spelt base n (v ++ w) ≡ spelt base (spelt base n v) w
unfolding spelt
spelt_append base n [] w = refl
spelt_append base n (b ∷ v) w = spelt_append base (n * base + digit_of b) v w

module _ (base : ℕ) (some : 0 < base) (most : base ≤ 16) where
  last_digit : (n : ℕ) → digit_of (glyph_of (n % base)) ≡ n % base
  last_digit n = digit_glyph (n % base) (lt_of_lt_of_le (mod-lt n some) most)

  digits_are : (k n : ℕ) → are_digits base (digits_of base k n) ≡ true
  unfolding are_digits digits_of
  digits_are zero n = refl
  digits_are (suc k) n = snoc (digits_of base k (n / base)) (digits_are k (n / base))
    where
      snoc : (v : List ℕ) → are_digits base v ≡ true → are_digits base (v ++ (glyph_of (n % base) ∷ [])) ≡ true
      snoc [] e = rw (last_digit n, lt-ltb (n % base) base (mod-lt n some))
      snoc (b ∷ v) e = and (ltb (digit_of b) base) e (snoc v)
        where
          and : (t : Bool) → t && are_digits base v ≡ true → (are_digits base v ≡ true → are_digits base (v ++ (glyph_of (n % base) ∷ [])) ≡ true) → t && are_digits base (v ++ (glyph_of (n % base) ∷ [])) ≡ true
          and true e f = f e
          and false e f = e

  spelt_digits : (k n : ℕ) → n < base ^ k → spelt base 0 (digits_of base k n) ≡ n
  unfolding spelt digits_of
  spelt_digits zero n h = omega (arith, pow-zero base)
  spelt_digits (suc k) n h =
      let q = one_fewer base k n some h in
      spelt_append base 0 (digits_of base k (n / base)) (glyph_of (n % base) ∷ [])
      ∙ rw (spelt_digits k (n / base) q, last_digit n) (div-add-mod' n base)

-- ---- a number
places_enough : (k n : ℕ) → n < 10 ^ suc k → n < 10 ^ places_up_to k n
places_enough zero n h = rw (places_one zero n (omega arith)) (omega arith)
places_enough (suc k) n h = go (dec_le 10 n) (places_enough k (n / 10))
  where
    go : Dec (10 ≤ n) → (n / 10 < 10 ^ suc k → n / 10 < 10 ^ places_up_to k (n / 10)) → n < 10 ^ places_up_to (suc k) n
    go (yes m) f =
        rw (places_more k n m, pow-suc) ((div-lt_iff_lt-mul (lit< tt)).0 (f (one_fewer 10 (suc k) n (lit< tt) h)))
    go (no f) _ = let l : n < 10 = lt_of_not-le f in rw (places_one (suc k) n l) (omega arith)

pub decimal_digits : (n : ℕ) → are_digits 10 (decimal_of n) ≡ true
unfolding decimal_of
decimal_digits n = digits_are 10 (lit< tt) (lit≤ tt) (places_up_to 19 n) n

pub decimal_back : (n : ℕ) → n < 2 ^ 64 → spelt 10 0 (decimal_of n) ≡ n
unfolding decimal_of
decimal_back n h = spelt_digits 10 (lit< tt) (lit≤ tt) (places_up_to 19 n) n (places_enough 19 n (lt_of_lt_of_le h (lit≤ tt)))

-- ---- a float
pub float_digits : (x : Float) → are_digits 16 (float_hex x) ≡ true
float_digits x = digits_are 16 (lit< tt) (lit≤ tt) 8 (to_bits binary32 x)

pub float_back : (x : Float) → T (fits binary32 x) → of_bits binary32 (spelt 16 0 (float_hex x)) ≡ x
float_back x f =
    ap (of_bits binary32) (spelt_digits 16 (lit< tt) (lit≤ tt) 8 (to_bits binary32 x) (to_bits-lt binary32 x f)) ∙ of_bits-to_bits binary32 x f
