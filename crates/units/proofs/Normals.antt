-- The join's normal of two unit vectors is at most 223 in a component: their sum is not short, or there is none. Assumes nothing.
use mathlib.Core.Path.{◌≡◌, refl, sym, subst}
use Prim.Native.Nat.{ℕ, ◌+◌, ◌*◌, ◌^◌, ◌≤◌, ◌<◌}
use native.Mathlib.Nat.{le_trans, mul-le-mul, mul-le-mul_right}
use native.Mathlib.Omega.{arith}
use mathlib.Core.Bool.{Bool, true, false, not, ◌&&◌}
use lib.Dec.{lit<, lit≤}
use lib.Pow.{pow_pos}
use lib.Ieee.{Float, binary32, unlike, neg, add, mul, div, lt, of_bits}
use lib.Ieee.Exact.{HasValue}
use Rattle.plane.specs.F32.{f32, size_below}
use Rattle.plane.specs.Vector.{point, plus_of, divided_of, turned_of, dot_of, square_length_of, normalize_of}
use Rattle.plane.specs.Normal.{epsilon, pick, normal_of}
use Rattle.plane.specs.declared.vector.Point.{Point}
use Rattle.rounding.proofs.Scales.{one, one_pos}
use Rattle.rounding.proofs.Signed.{above, under, sums_le}
use Rattle.rounding.proofs.Values.{negated_value, lt_value}
use Rattle.rounding.proofs.Results.{whole}
use Rattle.units.proofs.Operations.{Close, product, added, over}
use Rattle.units.proofs.Lengths.{Long, swapped}
use Rattle.units.proofs.Vectors.{one_large, Components, UnitVector, Within, Normalized, normalized, unity_of, twice, short_x, short_y, least, epsilon_is, least_low, some_of, long_enough}
use Rattle.units.proofs.Dots.{Apart, apart_squares, component, along, share, not_short, quotient, quotient_error, dotted, rounded_product, product_error, summed, upward, inverse, below}

-- ---- one is 2 ^ 21 ticks
unfoldable tick : ℕ
tick = 2 ^ 128

tick_pos : 0 < tick
unfolding tick
tick_pos = pow_pos 128

one_ticks : one ≡ 2097152 * tick
unfolding one tick
one_ticks = refl

one_some : 33554432 ≤ one
one_some = le_trans (lit≤ tt) one_large

-- ---- one component of the sum
abbrev Added : Float → Bool → ℕ → ℕ → Type 0
Added z s p q = (r : Bool) × (m : ℕ) × HasValue z r m one × (m ≤ 4 * one) × Apart r m s p (q + tick)

plus : (x y : Float) (s t : Bool) (p q : ℕ) → HasValue x s p one → HasValue y t q one → p ≤ 2 * one → q ≤ 2 * one → Added (add binary32 x y) s p q
plus x y s t p q v w pl ql =
    let T = added x y s t p q 4 (whole 4 (lit< tt)) v w (four p q one pl ql) in
    let R = T.close in
    (T.r, R.m, R.value, R.within, component s p t q T.r T.w R.m tick one T.sums R.rel (le_trans (sums_le s p t q T.r T.w T.sums) (four p q one pl ql)) one_ticks tick_pos)
  where
    four : (p q u : ℕ) → p ≤ 2 * u → q ≤ 2 * u → p + q ≤ 4 * u
    four p q u h k = omega arith

-- ---- the sum
record Sum (v1 v2 : Point) (c1 : Components v1) (c2 : Components v2) : Type 0 where
  pub at : Components (plus_of v1 v2)
  pub within : Within (plus_of v1 v2) at
  pub x_apart : Apart at.s at.x c1.s c1.x (c2.x + tick)
  pub y_apart : Apart at.t at.y c1.t c1.y (c2.y + tick)

both_not : (s t : Bool) → unlike (not s) (not t) ≡ unlike s t
both_not true true = refl
both_not true false = refl
both_not false true = refl
both_not false false = refl

-- ---- plain sums
twice_x : (g h r : ℕ) → Long (g * g + h * h) (r * r) → g ≤ 2 * r
twice_x g h r L = twice g (g * g + h * h) r (omega arith) L

twice_y : (g h r : ℕ) → Long (g * g + h * h) (r * r) → h ≤ 2 * r
twice_y g h r L = twice h (g * g + h * h) r (omega arith) L

joined : (r u a b c d e f g h m n : ℕ)
    → 16777216 * (r * c) + 16777216 * (u * e) ≤ 16777216 * (r * a) + 16777216 * (u * g) + m
    → 16777216 * (r * d) + 16777216 * (u * f) ≤ 16777216 * (r * b) + 16777216 * (u * h) + n
    → 16777216 * (r * (c + d)) + 16777216 * (u * (e + f)) ≤ 16777216 * (r * (a + b)) + 16777216 * (u * (g + h)) + (m + n)
joined r u a b c d e f g h m n i j = omega arith

collected : (u a b c d e f g h m n : ℕ)
    → 16777216 * (u * c) + 16777216 * e ≤ 16777216 * (u * a) + 16777216 * g + m
    → 16777216 * (u * d) + 16777216 * f ≤ 16777216 * (u * b) + 16777216 * h + n
    → 16777216 * (u * (c + d)) + 16777216 * (f + e) ≤ 16777216 * (u * (a + b)) + 16777216 * (h + g) + (m + n)
collected u a b c d e f g h m n i j = omega arith

four_of : (x p u : ℕ) → x ≤ 2 * u → p ≤ 2 * u → x * p ≤ 4 * (u * u)
four_of x p u h k = omega (arith, mul-le-mul h k)

eight : (a b u : ℕ) → a ≤ 4 * u → b ≤ 4 * u → a + b ≤ 8 * u
eight a b u h k = omega arith

more : (m k u : ℕ) → 10000 * k ≤ u → 45 * u ≤ 10000 * m → k ≤ m
more m k u h l = omega arith

positive : (m u : ℕ) → 0 < u → 45 * u ≤ 10000 * m → 0 < m
positive m u h l = omega arith

and_false : (a b : Bool) → b ≡ false → (a && b) ≡ false
and_false true b e = e
and_false false b e = refl

-- finite, and at most 223 in a component
pub record Reach (v : Point) : Type 0 where
  pub at : Components v
  pub x_in : at.x ≤ 223 * one
  pub y_in : at.y ≤ 223 * one

nothing : Reach (point (f32 0) (f32 0))
unfolding of_bits one
nothing = record { at = record { s = false; x = 0; x_is = (refl, refl); t = false; y = 0; y_is = (refl, refl) }; x_in = lit≤ tt; y_in = lit≤ tt }

module _ (v1 v2 : Point) (U1 : UnitVector v1) (U2 : UnitVector v2) where
  abbrev c1 : Components v1
  c1 = U1.at

  abbrev c2 : Components v2
  c2 = U2.at

  abbrev x1_in : c1.x ≤ 2 * one
  x1_in = short_x c1.x c1.y one U1.unity

  abbrev y1_in : c1.y ≤ 2 * one
  y1_in = short_y c1.x c1.y one U1.unity

  summed_up : Sum v1 v2 c1 c2
  unfolding plus_of
  summed_up =
      let X = plus v1.x v2.x c1.s c2.s c1.x c2.x c1.x_is c2.x_is x1_in (short_x c2.x c2.y one U2.unity) in
      let Y = plus v1.y v2.y c1.t c2.t c1.y c2.y c1.y_is c2.y_is y1_in (short_y c2.x c2.y one U2.unity) in
      record {
        at = record { s = X.0; x = X.1; x_is = X.2; t = Y.0; y = Y.1; y_is = Y.2 };
        within = record { x_in = le_trans X.3 (mul-le-mul_right one (lit≤ tt)); y_in = le_trans Y.3 (mul-le-mul_right one (lit≤ tt)) };
        x_apart = X.4;
        y_apart = Y.4;
      }

  module _ (S : Sum v1 v2 c1 c2) where
    abbrev c : Components (plus_of v1 v2)
    c = S.at

    -- the square of the sum's length
    abbrev square : ℕ
    square = c.x * c.x + c.y * c.y

    abbrev sx : Bool
    sx = unlike c.s c1.s

    abbrev sy : Bool
    sy = unlike c.t c1.t

    -- the sum along the first vector
    leaning : 1048576 * square + 2097152 * (under sx (c.x * c1.x) + under sy (c.y * c1.y)) ≤ 2097152 * (above sx (c.x * c1.x) + above sy (c.y * c1.y)) + 7 * (one * one)
    leaning =
        along c.x c.y c1.x c1.y c2.x c2.y tick one
        (above sx (c.x * c1.x)) (above sy (c.y * c1.y)) (under sx (c.x * c1.x)) (under sy (c.y * c1.y))
        (apart_squares c.s c.x c1.s c1.x (c2.x + tick) S.x_apart)
        (apart_squares c.t c.y c1.t c1.y (c2.y + tick) S.y_apart)
        U1.unity U2.unity (short_x c2.x c2.y one U2.unity) (short_y c2.x c2.y one U2.unity) one_ticks

    module _ (far : one * one ≤ 10002 * square) where
      abbrev N : Normalized (plus_of v1 v2) c
      N = normalized (plus_of v1 v2) (record { at = c; within = S.within; some = some_of square one one_large far })

      abbrev r : ℕ
      r = N.length.r

      abbrev nx : Float
      nx = (normalize_of (plus_of v1 v2)).x

      abbrev ny : Float
      ny = (normalize_of (plus_of v1 v2)).y

      abbrev X : ℕ
      X = N.x.m

      abbrev Y : ℕ
      Y = N.y.m

      -- the normalized sum along the first vector
      upright : 100000 * (under sx (X * c1.x) + under sy (Y * c1.y)) + 461 * (one * one) ≤ 100000 * (above sx (X * c1.x) + above sy (Y * c1.y))
      upright =
          let L = N.length.near in
          let gl : c.x ≤ 2 * r = twice_x c.x c.y r L in
          let hl : c.y ≤ 2 * r = twice_y c.x c.y r L in
          dotted r one (above sx (X * c1.x) + above sy (Y * c1.y)) (under sx (X * c1.x) + under sy (Y * c1.y))
          (above sx (c.x * c1.x) + above sy (c.y * c1.y)) (under sx (c.x * c1.x) + under sy (c.y * c1.y))
          (c.x * c1.x * one + 8388608 * (r * c1.x) + (c.y * c1.y * one + 8388608 * (r * c1.y)))
          N.some
          (joined r one (above sx (X * c1.x)) (above sy (Y * c1.y)) (under sx (X * c1.x)) (under sy (Y * c1.y))
          (above sx (c.x * c1.x)) (above sy (c.y * c1.y)) (under sx (c.x * c1.x)) (under sy (c.y * c1.y))
          (c.x * c1.x * one + 8388608 * (r * c1.x)) (c.y * c1.y * one + 8388608 * (r * c1.y))
          (quotient sx X r c.x one c1.x N.x.rel) (quotient sy Y r c.y one c1.y N.y.rel))
          (quotient_error c.x c.y r c1.x c1.y one gl hl x1_in y1_in one_some)
          (share square (above sx (c.x * c1.x) + above sy (c.y * c1.y)) (under sx (c.x * c1.x) + under sy (c.y * c1.y)) (one * one) (r * r) leaning far L.high)
          (not_short square r one far L)

      -- the products, and their sum
      first : Close (mul binary32 (neg ny) (neg v1.y)) sy one (Y * c1.y) 4
      first =
          subst (λ (t : Bool). Close (mul binary32 (neg ny) (neg v1.y)) t one (Y * c1.y) 4) (both_not c.t c1.t)
          (product (neg ny) (neg v1.y) (not c.t) (not c1.t) Y c1.y 4 (whole 4 (lit< tt)) (negated_value ny c.t Y one N.y.value) (negated_value v1.y c1.t c1.y one c1.y_is) (four_of Y c1.y one N.y.within y1_in))

      second : Close (mul binary32 nx v1.x) sx one (X * c1.x) 4
      second = product nx v1.x c.s c1.s X c1.x 4 (whole 4 (lit< tt)) N.x.value c1.x_is (four_of X c1.x one N.x.within x1_in)

      -- the inverse is 0.0045 at least
      abbrev inv : Float
      inv = add binary32 (mul binary32 (neg ny) (neg v1.y)) (mul binary32 nx v1.x)

      abbrev Inverse : Type 0
      Inverse = (m : ℕ) × HasValue inv false m one × (45 * one ≤ 10000 * m)

      inverse_is : Inverse
      inverse_is =
          let F = first in
          let G = second in
          let T = added (mul binary32 (neg ny) (neg v1.y)) (mul binary32 nx v1.x) sy sx F.m G.m 8 (whole 8 (lit< tt)) F.value G.value (eight F.m G.m one F.within G.within) in
          let R = T.close in
          let up =
          upward sy F.m sx G.m T.r T.w one one_pos T.sums
          (summed one (above sy F.m + above sx G.m) (under sy F.m + under sx G.m)
          (above sx (X * c1.x) + above sy (Y * c1.y)) (under sx (X * c1.x) + under sy (Y * c1.y))
          (Y * c1.y + 8388608 * one + (X * c1.x + 8388608 * one))
          one_pos
          (collected one (above sy F.m) (above sx G.m) (under sy F.m) (under sx G.m) (above sy (Y * c1.y)) (above sx (X * c1.x)) (under sy (Y * c1.y)) (under sx (X * c1.x))
          (Y * c1.y + 8388608 * one) (X * c1.x + 8388608 * one)
          (rounded_product sy F.m one (Y * c1.y) F.rel) (rounded_product sx G.m one (X * c1.x) G.rel))
          (product_error Y X c1.y c1.x one N.y.within N.x.within y1_in x1_in one_some)
          upright) in
          (R.m, subst (λ (t : Bool). HasValue inv t R.m one) up.0 R.value, inverse R.m T.w one one_some R.rel up.1)

      -- so it is not small
      not_small : size_below inv epsilon ≡ false
      not_small =
          let I = inverse_is in
          and_false (lt (neg epsilon) inv) (lt inv epsilon) ((lt_value inv epsilon I.0 least one one_pos I.1 epsilon_is).1 (more I.0 least one least_low I.2))

      -- and the quotients are at most 223
      divided : Reach (point (div binary32 (neg ny) inv) (div binary32 nx inv))
      divided =
          let I = inverse_is in
          let U = unity_of (plus_of v1 v2) c N in
          let M : 0 < I.0 = positive I.0 one one_pos I.2 in
          let x = over (neg ny) inv (not c.t) Y I.0 223 (whole 223 (lit< tt)) (negated_value ny c.t Y one N.y.value) I.1 M (below Y X I.0 one (swapped X Y one U) I.2) in
          let y = over nx inv c.s X I.0 223 (whole 223 (lit< tt)) N.x.value I.1 M (below X Y I.0 one U I.2) in
          record { at = record { s = not c.t; x = x.m; x_is = x.value; t = c.s; y = y.m; y_is = y.value }; x_in = x.within; y_in = y.within }

-- ---- the join's normal, where the sum is not short
pub past_threshold : (v1 v2 : Point) → UnitVector v1 → UnitVector v2 → lt (square_length_of (plus_of v1 v2)) epsilon ≡ false
    → let n = turned_of (normalize_of (plus_of v1 v2)) in Reach (divided_of n (dot_of n (turned_of v1)))
unfolding dot_of divided_of turned_of
past_threshold v1 v2 U1 U2 e = let S = summed_up v1 v2 U1 U2 in divided v1 v2 U1 U2 S (long_enough (plus_of v1 v2) S.at S.within e)

-- and where it may be
pub bounded : (v1 v2 : Point) → UnitVector v1 → UnitVector v2 → Reach (normal_of v1 v2)
unfolding normal_of dot_of divided_of turned_of
bounded v1 v2 U1 U2 = go (lt (square_length_of (plus_of v1 v2)) epsilon) refl
  where
    go : (t : Bool) → lt (square_length_of (plus_of v1 v2)) epsilon ≡ t
        → Reach (pick t (point (f32 0) (f32 0)) (pick (size_below (dot_of (turned_of (normalize_of (plus_of v1 v2))) (turned_of v1)) epsilon) (turned_of v1) (divided_of (turned_of (normalize_of (plus_of v1 v2))) (dot_of (turned_of (normalize_of (plus_of v1 v2))) (turned_of v1)))))
    go true e = nothing
    go false e =
        let S = summed_up v1 v2 U1 U2 in
        let far = long_enough (plus_of v1 v2) S.at S.within e in
        subst (λ (b : Bool). Reach (pick b (turned_of v1) (divided_of (turned_of (normalize_of (plus_of v1 v2))) (dot_of (turned_of (normalize_of (plus_of v1 v2))) (turned_of v1)))))
        (sym (not_small v1 v2 U1 U2 S far)) (past_threshold v1 v2 U1 U2 e)
