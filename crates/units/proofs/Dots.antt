-- The sum (x, y) of two unit vectors, as rounded, along the first of them: over any whole numbers with signs, u the unit and e = u / 2 ^ 21. The plan: two
-- numbers that are near have a product not much below half of their squares; so the sum's part along the first vector is 0.466 of its length at least,
-- and after normalizing, two products and a sum 0.0045 at least. Assumes nothing.
use mathlib.Core.Path.{◌≡◌, refl, ap}
use Prim.Native.Nat.{ℕ, ◌+◌, ◌-◌, ◌*◌, ◌≤◌, ◌<◌}
use native.Mathlib.Nat.{lt_of_not-le, mul-le-mul, mul-le-mul_right, le_of_mul-le-mul_right}
use native.Mathlib.Decide.{dec_le}
use native.Mathlib.Omega.{arith}
use mathlib.Core.Bool.{Bool, true, false}
use lib.Ieee.{unlike}
use Rattle.rounding.proofs.Signed.{above, under, Sums, above_under}
use Rattle.units.proofs.Relative.{Rel}
use Rattle.units.proofs.Lengths.{Long, Unity}

-- ---- ±a and ±b are at most d apart
abbrev pub Apart : Bool → ℕ → Bool → ℕ → ℕ → Type 0
Apart s a t b d = (above s a + under t b ≤ under s a + above t b + d) × (under s a + above t b ≤ above s a + under t b + d)

-- so their product is not much less than half of their squares
near_squares : (a b d : ℕ) → a ≤ b + d → b ≤ a + d → a * a + b * b ≤ 2 * (a * b) + d * d
near_squares a b d h k = go (dec_le a b)
  where
    -- the larger is the smaller and c more
    step : (a c d : ℕ) → c ≤ d → a * a + (a + c) * (a + c) ≤ 2 * (a * (a + c)) + d * d
    step a c d h = omega (arith, mul-le-mul h h)

    turn : (a b d : ℕ) → b * b + a * a ≤ 2 * (b * a) + d * d → a * a + b * b ≤ 2 * (a * b) + d * d
    turn a b d h = omega arith

    more : (a b d : ℕ) → a ≤ b → b ≤ a + d → a * a + b * b ≤ 2 * (a * b) + d * d
    more a b d h k = rest (b - a) (omega arith) (omega arith)
      where
        rest : (c : ℕ) → b ≡ a + c → c ≤ d → a * a + b * b ≤ 2 * (a * b) + d * d
        rest c e l = rw e (step a c d l)

    go : Dec (a ≤ b) → a * a + b * b ≤ 2 * (a * b) + d * d
    go (yes l) = more a b d l k
    go (no f) = turn a b d (more b a d (omega (arith, lt_of_not-le f)) h)

far_squares : (a b d : ℕ) → a + b ≤ d → a * a + b * b + 2 * (a * b) ≤ d * d
far_squares a b d h = omega (arith, mul-le-mul h h)

pub apart_squares : (s : Bool) (a : ℕ) (t : Bool) (b d : ℕ) → Apart s a t b d → a * a + b * b + 2 * under (unlike s t) (a * b) ≤ 2 * above (unlike s t) (a * b) + d * d
apart_squares true a true b d h = let k = near_squares a b d (omega (arith, h.1)) (omega (arith, h.0)) in omega (arith, k)
apart_squares true a false b d h = let k = far_squares a b d (omega (arith, h.1)) in omega (arith, k)
apart_squares false a true b d h = let k = far_squares a b d (omega (arith, h.0)) in omega (arith, k)
apart_squares false a false b d h = let k = near_squares a b d (omega (arith, h.0)) (omega (arith, h.1)) in omega (arith, k)

-- ---- a component of the sum is as near to the first one's as the second one's is large
pub component : (s : Bool) (p : ℕ) (t : Bool) (q : ℕ) (r : Bool) (w m e u : ℕ) → Sums s p t q r w → Rel m 1 w → w ≤ 4 * u → u ≡ 2097152 * e → 0 < e → Apart r m s p (q + e)
component s p t q r w m e u S R l k E = go r S (high R.high) (low R.low)
  where
    high : 16777216 * (m * 1) ≤ 16777217 * w + 8388608 * 1 → m ≤ w + e
    high h = omega arith

    low : 16777215 * w ≤ 16777216 * (m * 1) + 8388608 * 1 → w ≤ m + e
    low h = omega arith

    go : (r : Bool) → Sums s p t q r w → m ≤ w + e → w ≤ m + e → Apart r m s p (q + e)
    go true S h k = (omega (arith, above_under t q), omega (arith, above_under t q))
    go false S h k = (omega (arith, above_under t q), omega (arith, above_under t q))

-- ---- (x, y) along (p, q): a and b are the products' parts above zero, c and d those below
pub along : (x y p q j k e u a b c d : ℕ)
    → x * x + p * p + 2 * c ≤ 2 * a + (j + e) * (j + e) → y * y + q * q + 2 * d ≤ 2 * b + (k + e) * (k + e)
    → Unity p q u → Unity j k u → j ≤ 2 * u → k ≤ 2 * u → u ≡ 2097152 * e
    → 1048576 * (x * x + y * y) + 2097152 * (c + d) ≤ 2097152 * (a + b) + 7 * (u * u)
along x y p q j k e u a b c d h g P J jl kl E = go P.low J.high (mul-le-mul_right e jl) (mul-le-mul_right e kl) (ap (λ (z : ℕ). z * u) E) (ap (λ (z : ℕ). z * e) E)
  where
    go : 1048575 * (u * u) ≤ 1048576 * (p * p + q * q) → 1048576 * (j * j + k * k) ≤ 1048577 * (u * u) → j * e ≤ 2 * u * e → k * e ≤ 2 * u * e → u * u ≡ 2097152 * e * u → u * e ≡ 2097152 * e * e
        → 1048576 * (x * x + y * y) + 2097152 * (c + d) ≤ 2097152 * (a + b) + 7 * (u * u)
    go i l m n o r = omega (arith, h, g, i, l, m, n, o, r)

-- v is the unit's square, and q that of the length. Where the sum is not short, it is 0.466 of its length at least
pub share : (s a c v q : ℕ) → 1048576 * s + 2097152 * c ≤ 2097152 * a + 7 * v → v ≤ 10002 * s → 16777216 * q ≤ 16777224 * s → 466 * q + 1000 * c ≤ 1000 * a
share s a c v q h k l = omega arith

pub not_short : (s r u : ℕ) → u * u ≤ 10002 * s → Long s (r * r) → u ≤ 101 * r
not_short s r u h L = go (dec_le u (101 * r))
  where
    clash : 101 * r + 1 ≤ u → 16777208 * s ≤ 16777216 * (r * r) → ⊥
    clash k l = omega (arith, mul-le-mul k k)

    next : 101 * r < u → 101 * r + 1 ≤ u
    next k = omega arith

    go : Dec (u ≤ 101 * r) → u ≤ 101 * r
    go (yes k) = k
    go (no f) = absurd (clash (next (lt_of_not-le f)) L.low)

-- ---- the normalized sum along (p, q)
pub quotient : (t : Bool) (x r g u p : ℕ) → Rel x r (g * u)
    → 16777216 * (r * under t (x * p)) + 16777216 * (u * above t (g * p)) ≤ 16777216 * (r * above t (x * p)) + 16777216 * (u * under t (g * p)) + (g * p * u + 8388608 * (r * p))
quotient true x r g u p R = go (mul-le-mul_right p R.high)
  where
    go : 16777216 * (x * r) * p ≤ (16777217 * (g * u) + 8388608 * r) * p → 16777216 * (r * (x * p)) + 16777216 * (u * 0) ≤ 16777216 * (r * 0) + 16777216 * (u * (g * p)) + (g * p * u + 8388608 * (r * p))
    go h = omega arith
quotient false x r g u p R = go (mul-le-mul_right p R.low)
  where
    go : 16777215 * (g * u) * p ≤ (16777216 * (x * r) + 8388608 * r) * p → 16777216 * (r * 0) + 16777216 * (u * (g * p)) ≤ 16777216 * (r * (x * p)) + 16777216 * (u * 0) + (g * p * u + 8388608 * (r * p))
    go h = omega arith

pub quotient_error : (g h r p q u : ℕ) → g ≤ 2 * r → h ≤ 2 * r → p ≤ 2 * u → q ≤ 2 * u → 33554432 ≤ u → g * p * u + 8388608 * (r * p) + (h * q * u + 8388608 * (r * q)) ≤ 9 * (r * (u * u))
quotient_error g h r p q u gl hl pl ql U =
    let a : g * p * u ≤ 2 * r * (2 * u) * u = mul-le-mul_right u (mul-le-mul gl pl) in
    let b : h * q * u ≤ 2 * r * (2 * u) * u = mul-le-mul_right u (mul-le-mul hl ql) in
    let c : p * r ≤ 2 * u * r = mul-le-mul_right r pl in
    let d : q * r ≤ 2 * u * r = mul-le-mul_right r ql in
    let e : 33554432 * (u * r) ≤ u * (u * r) = mul-le-mul_right (u * r) U in
    omega (arith, a, b, c, d, e)

pub dotted : (r u d e a c m : ℕ) → 0 < r → 16777216 * (r * e) + 16777216 * (u * a) ≤ 16777216 * (r * d) + 16777216 * (u * c) + m → m ≤ 9 * (r * (u * u)) → 466 * (r * r) + 1000 * c ≤ 1000 * a → u ≤ 101 * r
    → 100000 * e + 461 * (u * u) ≤ 100000 * d
dotted r u d e a c m R h k l n =
    let f : (466 * (r * r) + 1000 * c) * u ≤ 1000 * a * u = mul-le-mul_right u l in
    let g : (7818182656 * (r * u) + 16777216000 * e) * r ≤ (16777216000 * d + 9000 * (u * u)) * r = omega (arith, f, h, k) in
    ends (u * u) (r * u) d e (le_of_mul-le-mul_right g R) (times (mul-le-mul_right u n))
  where
    times : u * u ≤ 101 * r * u → u * u ≤ 101 * (r * u)
    times h = omega arith

    ends : (v w d e : ℕ) → 7818182656 * w + 16777216000 * e ≤ 16777216000 * d + 9000 * v → v ≤ 101 * w → 100000 * e + 461 * v ≤ 100000 * d
    ends v w d e h k = omega arith

-- ---- the products as rounded, and their sum
pub rounded_product : (t : Bool) (f u n : ℕ) → Rel f u n → 16777216 * (u * under t f) + 16777216 * above t n ≤ 16777216 * (u * above t f) + 16777216 * under t n + (n + 8388608 * u)
rounded_product true f u n R = go R.high
  where
    go : 16777216 * (f * u) ≤ 16777217 * n + 8388608 * u → 16777216 * (u * f) + 16777216 * 0 ≤ 16777216 * (u * 0) + 16777216 * n + (n + 8388608 * u)
    go h = omega arith
rounded_product false f u n R = go R.low
  where
    go : 16777215 * n ≤ 16777216 * (f * u) + 8388608 * u → 16777216 * (u * 0) + 16777216 * n ≤ 16777216 * (u * f) + 16777216 * 0 + (n + 8388608 * u)
    go h = omega arith

pub product_error : (x y p q u : ℕ) → x ≤ 2 * u → y ≤ 2 * u → p ≤ 2 * u → q ≤ 2 * u → 33554432 ≤ u → x * p + 8388608 * u + (y * q + 8388608 * u) ≤ 10 * (u * u)
product_error x y p q u xl yl pl ql U =
    let a : x * p ≤ 2 * u * (2 * u) = mul-le-mul xl pl in
    let b : y * q ≤ 2 * u * (2 * u) = mul-le-mul yl ql in
    let c : 33554432 * u ≤ u * u = mul-le-mul_right u U in
    omega (arith, a, b, c)

pub summed : (u f g d e m : ℕ) → 0 < u → 16777216 * (u * g) + 16777216 * d ≤ 16777216 * (u * f) + 16777216 * e + m → m ≤ 10 * (u * u) → 100000 * e + 461 * (u * u) ≤ 100000 * d → 10000 * g + 46 * u ≤ 10000 * f
summed u f g d e m U h k l =
    let i : (10000 * g + 46 * u) * u ≤ 10000 * f * u = omega (arith, h, k, l) in
    le_of_mul-le-mul_right i U

-- so their sum ±w is above zero
pub upward : (s : Bool) (f : ℕ) (t : Bool) (g : ℕ) (r : Bool) (w u : ℕ) → 0 < u → Sums s f t g r w → 10000 * (under s f + under t g) + 46 * u ≤ 10000 * (above s f + above t g) → (r ≡ false) × (46 * u ≤ 10000 * w)
upward s f t g true w u U S h = absurd (clash S h)
  where
    clash : 0 + under s f + under t g ≡ w + above s f + above t g → 10000 * (under s f + under t g) + 46 * u ≤ 10000 * (above s f + above t g) → ⊥
    clash e l = omega (arith, e, l, U)
upward s f t g false w u U S h = (refl, go S h)
  where
    go : w + under s f + under t g ≡ 0 + above s f + above t g → 10000 * (under s f + under t g) + 46 * u ≤ 10000 * (above s f + above t g) → 46 * u ≤ 10000 * w
    go e l = omega (arith, e, l)

pub inverse : (m w u : ℕ) → 33554432 ≤ u → Rel m 1 w → 46 * u ≤ 10000 * w → 45 * u ≤ 10000 * m
inverse m w u U R h = go R.low
  where
    go : 16777215 * w ≤ 16777216 * (m * 1) + 8388608 * 1 → 45 * u ≤ 10000 * m
    go k = omega (arith, k, h, U)

-- ---- the quotient's bound
pub below : (x y m u : ℕ) → Unity x y u → 45 * u ≤ 10000 * m → x ≤ 223 * m
below x y m u L h = go (dec_le x (223 * m))
  where
    over : 223 * m + 1 ≤ x → 1003 * u ≤ 1000 * x
    over k = omega arith

    clash : 1003 * u ≤ 1000 * x → 223 * m + 1 ≤ x → 1048576 * (x * x + y * y) ≤ 1048577 * (u * u) → ⊥
    clash i k l = omega (arith, mul-le-mul i i, mul-le-mul k k)

    next : 223 * m < x → 223 * m + 1 ≤ x
    next k = omega arith

    go : Dec (x ≤ 223 * m) → x ≤ 223 * m
    go (yes k) = k
    go (no f) = let k = next (lt_of_not-le f) in absurd (clash (over k) k L.high)
