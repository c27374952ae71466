-- Units of 2 ^ -149: an f32 that is not negative is a whole number of them, n * 2 ^ j with an n of 24 digits, and is known by it. Assumes nothing.
use mathlib.Core.Path.{◌≡◌, refl, sym, ap, ◌∙◌}
use Prim.Native.Nat.{ℕ, zero, suc, ◌+◌, ◌-◌, ◌*◌, ◌/◌, ◌%◌, ◌^◌, ◌≤◌, ◌<◌}
use native.Mathlib.Nat.{lt_of_not-le, not-le_of_lt, zero-mul, zero-div, div-one, mul-one, mul_assoc, mul-div_cancel}
use native.Mathlib.Omega.{arith}
use mathlib.Core.Bool.{true, false, ◌&&◌}
use lib.IntN.{ℤ, pos, negsuc}
use lib.Dec.{T, leb, ltb, eqb, leb→le, ltb→lt}
use lib.Pow.{pow-add, pow_pos, pow-lt}
use lib.Ieee.{Float, nan, inf, fin, binary32, fits, up, down, to_bits, of_bits, size}
use lib.Ieee.Bits.{of_bits-to_bits}
use lib.Ieee.Fits.{and_l, and_r}
use lib.Ieee.Exact.{HasValue}
use lib.Ieee.Positive.{num, den, den_pos, value→cross}
use Rattle.root.specs.Root.{rootable, units}

pub units_of : (x : Float) (v : ℕ) → HasValue x false v (2 ^ 149) → units x ≡ v
units_of x v h = ap (λ (n : ℕ). n / den x) (value→cross x v (2 ^ 149) h) ∙ mul-div_cancel v (den_pos x)

-- ---- what binary32 holds above zero: 24 digits, and no place below a unit's
held : (m : ℕ) (e : ℤ) → T (fits binary32 (fin false (suc m) e)) → (suc m < 16777216) × (down e ≤ 2 ^ 149)
unfolding fits
held m e f =
    let A = eqb (suc m % 2) 1 in
    let B = ltb (suc m) (2 ^ 24) in
    let C = leb (down e) (2 ^ 149) in
    let D = ltb (suc m * up e) (2 ^ 128 * down e) in
    let g = and_l (A && B && C) D f in
    (ltb→lt (suc m) (2 ^ 24) (and_r A B (and_l (A && B) C g)), leb→le (down e) (2 ^ 149) (and_r (A && B) C g))

-- ---- n * 2 ^ l as a multiple of 2 ^ a
back : (l a : ℕ) → a ≤ l → l - a + a ≡ l
back l a h = omega arith

exponent_le : (a l : ℕ) → 2 ^ a ≤ 2 ^ l → a ≤ l
exponent_le a l h = under (lt_of_not-le (λ (g : suc l ≤ a). not-le_of_lt (pow-lt g) h))
  where
    under : a < suc l → a ≤ l
    under k = omega arith

pub multiple : (n a l : ℕ) → a ≤ l → n * 2 ^ l ≡ n * 2 ^ (l - a) * 2 ^ a
multiple n a l h = ap (λ (x : ℕ). n * x) (ap (λ (x : ℕ). 2 ^ x) (sym (back l a h)) ∙ pow-add 2 (l - a) a) ∙ sym (mul_assoc n (2 ^ (l - a)) (2 ^ a))

cut : (n a l : ℕ) → a ≤ l → n * 2 ^ l / 2 ^ a ≡ n * 2 ^ (l - a)
cut n a l h = ap (λ (x : ℕ). x / 2 ^ a) (multiple n a l h) ∙ mul-div_cancel (n * 2 ^ (l - a)) (pow_pos a)

-- ---- an f32 that is not negative stands on a grid
abbrev pub Grid : Float → Type 0
Grid y = (n : ℕ) × (j : ℕ) × (n < 16777216) × (units y ≡ n * 2 ^ j)

grid_at : (n : ℕ) (e : ℤ) → n < 16777216 → down e ≤ 2 ^ 149 → Grid (fin false n e)
grid_at n (pos a) h l = (n, a + 149, h, div-one (n * 2 ^ a * 2 ^ 149) ∙ mul_assoc n (2 ^ a) (2 ^ 149) ∙ ap (λ (x : ℕ). n * x) (sym (pow-add 2 a 149)))
grid_at n (negsuc a) h l = (n, 149 - suc a, h, ap (λ (x : ℕ). x * 2 ^ 149 / 2 ^ suc a) (mul-one n) ∙ cut n (suc a) 149 (exponent_le (suc a) 149 l))

none : (e : ℤ) → units (fin false zero e) ≡ 0
none e = ap (λ (x : ℕ). x * 2 ^ 149 / down e) (zero-mul (up e)) ∙ zero-div (down e)

pub grid : (y : Float) → T (fits binary32 y) → T (rootable y) → Grid y
grid nan f r = absurd r
grid (inf s) f r = absurd r
grid (fin true m e) f r = absurd r
grid (fin false zero e) f r = (0, 0, pow_pos 24, none e)
grid (fin false (suc m) e) f r = let h = held m e f in grid_at (suc m) e h.0 h.1

-- ---- so dividing by the denominator drops nothing
exact_at : (n : ℕ) (e : ℤ) → down e ≤ 2 ^ 149 → units (fin false n e) * down e ≡ n * up e * 2 ^ 149
exact_at n (pos a) l = mul-one (n * 2 ^ a * 2 ^ 149 / 1) ∙ div-one (n * 2 ^ a * 2 ^ 149)
exact_at n (negsuc a) l =
    let h : suc a ≤ 149 = exponent_le (suc a) 149 l in
    ap (λ (x : ℕ). x * 2 ^ suc a) (ap (λ (x : ℕ). x * 2 ^ 149 / 2 ^ suc a) (mul-one n) ∙ cut n (suc a) 149 h)
    ∙ sym (multiple n (suc a) 149 h) ∙ ap (λ (x : ℕ). x * 2 ^ 149) (sym (mul-one n))

pub units_exact : (x : Float) → T (fits binary32 x) → T (rootable x) → units x * den x ≡ num x * 2 ^ 149
units_exact nan f r = absurd r
units_exact (inf s) f r = absurd r
units_exact (fin true m e) f r = absurd r
units_exact (fin false zero e) f r = ap (λ (x : ℕ). x * down e) (none e) ∙ zero-mul (down e) ∙ sym (ap (λ (x : ℕ). x * 2 ^ 149) (zero-mul (up e)))
units_exact (fin false (suc m) e) f r = exact_at (suc m) e (held m e f).1

-- ---- its pattern follows from its units
pattern : (x : Float) → T (rootable x) → to_bits binary32 x ≡ 0 + (size (units x) - 24) * 8388608 + units x / 2 ^ (size (units x) - 24)
unfolding to_bits
pattern nan p = absurd p
pattern (inf s) p = absurd p
pattern (fin true m e) p = absurd p
pattern (fin false m e) p = refl

pub same_units : (x y : Float) → T (fits binary32 x) → T (fits binary32 y) → T (rootable x) → T (rootable y) → units x ≡ units y → x ≡ y
same_units x y f g p q e =
    sym (of_bits-to_bits binary32 x f)
    ∙ ap (of_bits binary32) (pattern x p ∙ ap (λ (n : ℕ). 0 + (size n - 24) * 8388608 + n / 2 ^ (size n - 24)) e ∙ sym (pattern y q))
    ∙ of_bits-to_bits binary32 y g
