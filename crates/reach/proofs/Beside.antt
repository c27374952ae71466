-- How far a number lies from a coordinate, in half widths. The coordinate p may be any float within 32,768, so both are taken at the scale of p, c * one; the half width is H units. The
-- plan: an offset that f32 adds to a number beside p puts it two half widths further off, at the most, than an exact sum would (`stepped`), since the rounding is a part in 2 ^ 24 of about
-- 32,768, which is 1/512. Rule 8's normal is that distance over the half width (`normal`), and every bounded normal has its place (`place`). Assumes nothing.
use mathlib.Core.Path.{subst}
use Prim.Native.Nat.{ℕ, ◌+◌, ◌*◌, ◌^◌, ◌≤◌, ◌<◌}
use native.Mathlib.Nat.{le_trans, mul_comm, mul-le-mul, mul-le-mul_right, le_of_mul-le-mul_right, mul-pos}
use native.Mathlib.Omega.{arith}
use mathlib.Core.Bool.{Bool, true, false, not}
use lib.Dec.{lit≤}
use lib.Ieee.{Float, unlike, neg}
use lib.Ieee.Exact.{HasValue}
use lib.Ieee.Positive.{num, den, den_pos}
use Rattle.plane.specs.F32.{◌⊕◌, ◌⊖◌, ◌⊗◌, ◌⊘◌}
use Rattle.rounding.proofs.Rounding.{rounded}
use Rattle.rounding.proofs.Scales.{one, one_pos}
use Rattle.rounding.proofs.Signed.{above_under, Sums, sums_le}
use Rattle.rounding.proofs.Values.{sign, finite_value, scaled_value, negated_value, add_round, sub_round}
use Rattle.rounding.proofs.Results.{whole, power, made, Bounded, made_bounded, Within}
use Rattle.units.proofs.Relative.{Rel, relative, cancel}
use Rattle.units.proofs.Operations.{product, over}
use Rattle.units.proofs.Dots.{Apart}
use Rattle.reach.proofs.Widths.{Width, Part}

-- ---- bounded numbers
abbrev pub looser : {z : Float} (j k : ℕ) → j ≤ k → Bounded z j → Bounded z k
looser j k l b = record { s = b.s; size = b.size; value = b.value; within = le_trans b.within (mul-le-mul_right one l) }

pub bounded_times : {x y : Float} (j k : ℕ) → j * k < 2 ^ 24 → Bounded x j → Bounded y k → Bounded (x ⊗ y) (j * k)
bounded_times {x} {y} j k K I J =
    let m = product x y I.s J.s I.size J.size (j * k) (whole (j * k) K) I.value J.value (bound I.size J.size one I.within J.within) in
    record { s = unlike I.s J.s; size = m.m; value = m.value; within = m.within }
  where
    bound : (a b u : ℕ) → a ≤ j * u → b ≤ k * u → a * b ≤ j * k * (u * u)
    bound a b u h g = omega (arith, mul-le-mul h g)

-- ---- signed numbers
apart_le : (s : Bool) (a : ℕ) (t : Bool) (b d : ℕ) → Apart s a t b d → a ≤ b + d
apart_le true a true b d h = omega arith
apart_le true a false b d h = omega arith
apart_le false a true b d h = omega arith
apart_le false a false b d h = omega arith

apart_difference : (s : Bool) (a : ℕ) (t : Bool) (b : ℕ) (r : Bool) (w d : ℕ) → Sums s a (not t) b r w → Apart s a t b d → w ≤ d
apart_difference s a true b true w d e h = omega arith
apart_difference s a true b false w d e h = omega arith
apart_difference s a false b true w d e h = omega arith
apart_difference s a false b false w d e h = omega arith

-- ±q is the sum ±w of ±a and ±o, but for f
apart_sum : (s : Bool) (a : ℕ) (p : Bool) (o : ℕ) (r : Bool) (w q : ℕ) (t : Bool) (b d e f g : ℕ)
    → Sums s a p o r w → Apart s a t b d → o ≤ e → q ≤ w + f → w ≤ q + f → d + e + f ≤ g → Apart r q t b g
apart_sum s a p o true w q t b d e f g S A h k l m = (omega (arith, above_under p o), omega (arith, above_under p o))
apart_sum s a p o false w q t b d e f g S A h k l m = (omega (arith, above_under p o), omega (arith, above_under p o))

-- ---- numbers over half widths
-- rounding costs less than a half width
one_more : (x k h : ℕ) → 16777216 * x ≤ 16777217 * (k * h) + 8388608 → k ≤ 8388608 → 0 < h → x ≤ (k + 1) * h
one_more x k h l K P = omega (arith, mul-le-mul_right h K)

-- and in a sum with a coordinate less than two
two_more : (q w c b k : ℕ) → 16777216 * q ≤ 16777217 * w + 8388608 * c → 16777215 * w ≤ 16777216 * q + 8388608 * c → w ≤ 16777216 * b + k * b → k ≤ 8388608 → c ≤ b
    → (q ≤ w + 2 * b) × (w ≤ q + 2 * b)
two_more q w c b k h l m K C = (omega (arith, mul-le-mul_right b K), omega (arith, mul-le-mul_right b K))

module _ {h : Float} (W : Width h) where
  abbrev H : ℕ
  H = W.size

  some : 0 < H
  some = omega (arith, one_pos, W.low)

  -- ---- an offset of at most k half widths
  pub record Offset (o : Float) (k : ℕ) : Type 0 where
    pub s : Bool
    pub size : ℕ
    pub value : HasValue o s size one
    pub within : size ≤ k * H

  pub offset_neg : {o : Float} {k : ℕ} → Offset o k → Offset (neg o) k
  offset_neg {o} O = record { s = not O.s; size = O.size; value = negated_value o O.s O.size one O.value; within = O.within }

  pub offset_bounded : {o : Float} (k : ℕ) → Offset o k → Bounded o (k * 8192)
  offset_bounded k O = record { s = O.s; size = O.size; value = O.value; within = wide O.size O.within }
    where
      wide : (o : ℕ) → o ≤ k * H → o ≤ k * 8192 * one
      wide o l = omega (arith, mul-le-mul_right k W.high)

  pub offset : {n z : Float} (k : ℕ) → k ≤ 8388608 → Bounded n k → Part W z → Offset (n ⊗ z) (k + 1)
  offset {n} {z} k K N P =
      let m = product n z N.s false N.size P.size (2 ^ 60) (power 60 (lit≤ tt)) N.value P.value (fits N.size P.size one N.within P.high W.high) in
      record {
        s = unlike N.s false;
        size = m.m;
        value = m.value;
        within = one_more m.m k H (le_of_mul-le-mul_right (less m.m N.size P.size one m.rel.high N.within P.high) one_pos) K some;
      }
    where
      fits : (a b u : ℕ) → a ≤ k * u → b ≤ H → H ≤ 8192 * u → a * b ≤ 2 ^ 60 * (u * u)
      fits a b u i j l =
          let x : a ≤ 8388608 * u = le_trans i (mul-le-mul_right u K) in
          omega (arith, mul-le-mul x (le_trans j l))

      less : (m a b u : ℕ) → 16777216 * (m * u) ≤ 16777217 * (a * b) + 8388608 * u → a ≤ k * u → b ≤ H → 16777216 * m * u ≤ (16777217 * (k * H) + 8388608) * u
      less m a b u l i j = omega (arith, mul-le-mul i j)

  -- ---- a number beside the coordinate p, at most k half widths off
  module _ (p : Float) (P : Within 32768 p) where
    abbrev c : ℕ
    c = den p

    abbrev X : ℕ
    X = num p * one

    abbrev scale_pos : 0 < c * one
    scale_pos = mul-pos (den_pos p) one_pos

    abbrev value_p : HasValue p (sign p) X (c * one)
    value_p = scaled_value p (sign p) (num p) c one (finite_value p P.0)

    pub record Beside (z : Float) (k : ℕ) : Type 0 where
      pub s : Bool
      pub size : ℕ
      pub value : HasValue z s size (c * one)
      pub near : Apart s size (sign p) X (k * (H * c))

    pub at_itself : Beside p 0
    at_itself = record { s = sign p; size = X; value = value_p; near = (omega arith, omega arith) }

    pub further : {z : Float} (j k : ℕ) → j ≤ k → Beside z j → Beside z k
    further j k l b =
        let m = mul-le-mul_right (H * c) l in
        record { s = b.s; size = b.size; value = b.value; near = (omega (arith, b.near.0), omega (arith, b.near.1)) }

    -- p itself is not more than 2 ^ 24 half widths
    p_in : X ≤ 16777216 * (H * c)
    p_in = at (num p) c one H P.1 W.low
      where
        at : (n c u h : ℕ) → n ≤ 32768 * c → u ≤ 512 * h → n * u ≤ 16777216 * (h * c)
        at n c u h i l = omega (arith, mul-le-mul_right u i, mul-le-mul_right c l)

    half_wide : H * c ≤ 8192 * (c * one)
    half_wide = at H c one W.high
      where
        at : (h c u : ℕ) → h ≤ 8192 * u → h * c ≤ 8192 * (c * u)
        at h c u i = omega (arith, mul-le-mul_right c i)

    pub stepped : {z o : Float} (j k m : ℕ) → j + k + 2 ≤ m → m ≤ 8388608 → Beside z j → Offset o k → Beside (z ⊕ o) m
    stepped {z} {o} j k m M K b O =
        let A = O.size * c in
        let vo : HasValue o O.s A (c * one) = subst (λ (d : ℕ). HasValue o O.s A d) (mul_comm one c) (scaled_value o O.s O.size one c O.value) in
        let e = add_round z o b.s O.s b.size A (c * one) scale_pos b.value vo in
        let w = e.w in
        let n = rounded (w * one) (c * one) in
        let l : w ≤ 16777216 * (H * c) + (j + k) * (H * c) = far b.size w O.size (sums_le b.s b.size O.s A e.r w e.sums) (apart_le b.s b.size (sign p) X (j * (H * c)) b.near) O.within in
        let z' = made (z ⊕ o) e.r w (c * one) (2 ^ 60) scale_pos (power 60 (lit≤ tt)) e.is (inside w l) in
        let R : Rel n c w = cancel n c w one one_pos (relative (w * one) (c * one) scale_pos) in
        let t = two_more (n * c) w c (H * c) (j + k) R.high R.low l few (least c H some) in
        record {
          s = e.r;
          size = n * c;
          value = subst (λ (d : ℕ). HasValue (z ⊕ o) e.r (n * c) d) (mul_comm one c) (scaled_value (z ⊕ o) e.r n one c z'.value);
          near = apart_sum b.s b.size O.s A e.r w (n * c) (sign p) X (j * (H * c)) (k * (H * c)) (2 * (H * c)) (m * (H * c)) e.sums b.near (scaled O.size O.within) t.0 t.1 (omega (arith, mul-le-mul_right (H * c) M));
        }
      where
        few : j + k ≤ 8388608
        few = omega arith

        scaled : (o : ℕ) → o ≤ k * H → o * c ≤ k * (H * c)
        scaled o l = omega (arith, mul-le-mul_right c l)

        far : (a w o : ℕ) → w ≤ a + o * c → a ≤ X + j * (H * c) → o ≤ k * H → w ≤ 16777216 * (H * c) + (j + k) * (H * c)
        far a w o h i l = omega (arith, p_in, mul-le-mul_right c l)

        inside : (w : ℕ) → w ≤ 16777216 * (H * c) + (j + k) * (H * c) → w ≤ 2 ^ 60 * (c * one)
        inside w l = omega (arith, half_wide, mul-le-mul_right (H * c) few)

        least : (c h : ℕ) → 0 < h → c ≤ h * c
        least c h l = omega (arith, mul-le-mul_right c l)

    -- ---- rule 8: "A vertex's normal is (point - position)/h"
    pub normal : {z : Float} (k : ℕ) → k ≤ 8388608 → Beside z k → Bounded ((z ⊖ p) ⊘ h) (k + 1)
    normal {z} k K b =
        let e = sub_round z p b.s (sign p) b.size X (c * one) scale_pos b.value value_p in
        let w = e.w in
        let m = rounded (w * one) (c * one) in
        let l : w ≤ k * (H * c) = apart_difference b.s b.size (sign p) X e.r w (k * (H * c)) e.sums b.near in
        let d = made (z ⊖ p) e.r w (c * one) (2 ^ 60) scale_pos (power 60 (lit≤ tt)) e.is (inside w l) in
        let R : Rel m c w = cancel m c w one one_pos (relative (w * one) (c * one) scale_pos) in
        let q = over (z ⊖ p) h e.r m H (k + 1) (whole (k + 1) (few K)) d.value W.value some (one_more m k H (le_of_mul-le-mul_right (less m w R.high l) (den_pos p)) K some) in
        record { s = e.r; size = q.m; value = q.value; within = q.within }
      where
        inside : (w : ℕ) → w ≤ k * (H * c) → w ≤ 2 ^ 60 * (c * one)
        inside w l = omega (arith, half_wide, mul-le-mul_right (H * c) K)

        few : k ≤ 8388608 → k + 1 < 2 ^ 24
        few l = omega arith

        less : (m w : ℕ) → 16777216 * (m * c) ≤ 16777217 * w + 8388608 * c → w ≤ k * (H * c) → 16777216 * m * c ≤ (16777217 * (k * H) + 8388608) * c
        less m w i l = omega arith

    -- "and its place is position + normal*h"
    pub place : {n : Float} (k : ℕ) → 32768 + k * 8192 < 2 ^ 24 → Bounded n k → Bounded (p ⊕ n ⊗ h) (32768 + k * 8192)
    place {n} k K N =
        let o = bounded_times k 8192 (less K) N (record { s = false; size = H; value = W.value; within = W.high }) in
        let A = o.size * c in
        let vo : HasValue (n ⊗ h) o.s A (c * one) = subst (λ (d : ℕ). HasValue (n ⊗ h) o.s A d) (mul_comm one c) (scaled_value (n ⊗ h) o.s o.size one c o.value) in
        let e = add_round p (n ⊗ h) (sign p) o.s X A (c * one) scale_pos value_p vo in
        made_bounded (made (p ⊕ n ⊗ h) e.r e.w (c * one) (32768 + k * 8192) scale_pos (whole (32768 + k * 8192) K) e.is (below e.w (num p) o.size c one (sums_le (sign p) X o.s A e.r e.w e.sums) P.1 o.within))
      where
        less : 32768 + k * 8192 < 2 ^ 24 → k * 8192 < 2 ^ 24
        less l = omega arith

        below : (w n o c u : ℕ) → w ≤ n * u + o * c → n ≤ 32768 * c → o ≤ k * 8192 * u → w ≤ (32768 + k * 8192) * (c * u)
        below w n o c u l i j = omega (arith, mul-le-mul_right u i, mul-le-mul_right c j)
