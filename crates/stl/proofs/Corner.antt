-- Which patterns are a finite number's, and which a zero's. Assumes nothing.
use Prim.Native.Nat.{ℕ, zero, suc, ◌+◌, ◌/◌, ◌%◌, ◌^◌, ◌<◌}
use mathlib.Core.Path.{◌≡◌, refl, sym, ap, ◌∙◌, subst}
use mathlib.Core.Bool.{Bool, true, false, not, cond, ◌&&◌}
use native.Mathlib.Omega.{arith}
use borrow.Author.Tests.{eqb-true, eqb-false, ne_eqb, eq-eqb}
use lib.Count.{count_trailing_zeros, under}
use lib.Dec.{T, leb, eqb, eqb-suc-zero}
use lib.Ieee.{Float, nan, inf, fin, binary32, odd, of_fields, of_bits, is_nan, nan_bits}
use lib.Ieee.Bits.{nan_bits_is}
use lib.Pow.{shr-shr}
use Rattle.std.specs.Float.{float_is_finite}
use Rattle.plane.specs.declared.vector.Point.{Point}
use Rattle.stl.specs.Corner.{finite, is_zero, finite_corner}

-- ---- finite: the exponent's field is not all ones
finite_odd : (d : ℕ) (s : Bool) (q k l : ℕ) → finite (odd d s q k l) ≡ true
unfolding odd finite
finite_odd d s zero k l = refl
finite_odd d s (suc q) k l = refl

finite_fields : (s : Bool) (x t : ℕ) → finite (of_fields binary32 s x t) ≡ not (eqb x 255)
unfolding of_fields finite
finite_fields s zero t = finite_odd 24 s t 0 149
finite_fields s (suc x) t = go (eqb (suc x) 255) (eqb t 0)
  where
    go : (a b : Bool) → finite (cond a (cond b (inf s) nan) (odd 24 s (8388608 + t) x 149)) ≡ not a
    go true true = refl
    go true false = refl
    go false b = finite_odd 24 s (8388608 + t) x 149

pub finite_is : (b : ℕ) → finite (of_bits binary32 b) ≡ not (eqb (b % 2147483648 / 8388608) 255)
unfolding of_bits
finite_is b = finite_fields (leb 2147483648 b) (b % 2147483648 / 8388608) (b % 8388608)

-- ---- zero: no bit but the sign's. What is left of a number without its trailing zeros is not 0.
odd_part : (k q : ℕ) → 0 < q → 0 < q / 2 ^ count_trailing_zeros k q
unfolding count_trailing_zeros
odd_part zero q h = omega arith
odd_part (suc k) q h = go (λ g. odd_part k (q / 2) g) (q % 2) refl
  where
    go : (0 < q / 2 → 0 < q / 2 / 2 ^ count_trailing_zeros k (q / 2)) → (r : ℕ) → q % 2 ≡ r → 0 < q / 2 ^ under r (count_trailing_zeros k (q / 2))
    go less zero e =
        let t = count_trailing_zeros k (q / 2) in
        let s : 1 + t ≡ suc t = omega arith in
        subst (λ (x : ℕ). 0 < x) (shr-shr q 1 t ∙ ap (λ (j : ℕ). q / 2 ^ j) s) (less (omega arith))
    go less (suc r) e = omega arith

zero_odd : (d : ℕ) (s : Bool) (q k l : ℕ) → is_zero (odd d s q k l) ≡ eqb q 0
unfolding odd is_zero
zero_odd d s zero k l = refl
zero_odd d s (suc q) k l = let p = odd_part d (suc q) (omega arith) in ne_eqb (suc q / 2 ^ count_trailing_zeros d (suc q)) 0 (λ e. none p e) ∙ sym (eqb-suc-zero q)
  where
    none : {a : ℕ} → 0 < a → a ≡ 0 → ⊥
    none p e = omega arith

zero_fields : (s : Bool) (x t : ℕ) → is_zero (of_fields binary32 s x t) ≡ eqb x 0 && eqb t 0
unfolding of_fields is_zero
zero_fields s zero t = zero_odd 24 s t 0 149
zero_fields s (suc x) t = rw (eqb-suc-zero x) (go (eqb (suc x) 255) (eqb t 0))
  where
    go : (a b : Bool) → is_zero (cond a (cond b (inf s) nan) (odd 24 s (8388608 + t) x 149)) ≡ false
    go true true = refl
    go true false = refl
    go false b = zero_odd 24 s (8388608 + t) x 149 ∙ ne_eqb (8388608 + t) 0 (λ e. omega arith)

both_zero : (b : ℕ) → eqb (b % 2147483648 / 8388608) 0 && eqb (b % 8388608) 0 ≡ eqb (b % 2147483648) 0
both_zero b = go (eqb (b % 2147483648 / 8388608) 0) refl (eqb (b % 8388608) 0) refl
  where
    go : (p : Bool) → eqb (b % 2147483648 / 8388608) 0 ≡ p → (q : Bool) → eqb (b % 8388608) 0 ≡ q → p && q ≡ eqb (b % 2147483648) 0
    go true e true f = sym (eq-eqb (b % 2147483648) 0 (omega (arith, eqb-true (b % 2147483648 / 8388608) 0 e, eqb-true (b % 8388608) 0 f)))
    go true e false f = sym (ne_eqb (b % 2147483648) 0 (λ h. eqb-false (b % 8388608) 0 f (omega arith)))
    go false e q f = sym (ne_eqb (b % 2147483648) 0 (λ h. eqb-false (b % 2147483648 / 8388608) 0 e (omega arith)))

pub zero_is : (b : ℕ) → is_zero (of_bits binary32 b) ≡ eqb (b % 2147483648) 0
unfolding of_bits
zero_is b = zero_fields (leb 2147483648 b) (b % 2147483648 / 8388608) (b % 8388608) ∙ both_zero b

-- ---- a finite number is no NaN: its bits may be taken, and it may be made of them
finite_no_nan : (x : Float) → T (finite x) → T (not (is_nan x))
unfolding finite is_nan
finite_no_nan nan h = absurd h
finite_no_nan (inf s) h = tt
finite_no_nan (fin s m e) h = tt

pub both : (a b : Bool) → T (a && b) → T a × T b
both true b h = (tt, h)
both false b h = absurd h

pub corner_finite : (p : Point) → T (finite_corner p) → T (finite p.x) × T (finite p.y)
unfolding finite_corner
corner_finite p h = both (finite p.x) (finite p.y) h

pub corner_no_nan : (p : Point) → T (finite_corner p) → T (not (is_nan p.x)) × T (not (is_nan p.y))
corner_no_nan p h = let f = corner_finite p h in (finite_no_nan p.x f.0, finite_no_nan p.y f.1)

pub pattern_no_nan : (b : ℕ) → T (finite (of_bits binary32 b)) → T (not (nan_bits binary32 b))
pattern_no_nan b h = subst (λ (t : Bool). T (not t)) (sym (nan_bits_is binary32 b)) (finite_no_nan (of_bits binary32 b) h)

-- ---- std's test of a float
pub finite_same : (x : Float) → float_is_finite x ≡ finite x
unfolding finite float_is_finite
finite_same nan = refl
finite_same (inf s) = refl
finite_same (fin s m e) = refl
