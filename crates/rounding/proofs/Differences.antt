-- Two floats that are at most k in size, brought to one scale, and their difference. Assumes nothing.
use mathlib.Core.Path.{ap, ◌∙◌, subst}
use Prim.Native.Nat.{ℕ, ◌+◌, ◌*◌, ◌^◌, ◌≤◌, ◌<◌}
use native.Mathlib.Nat.{le_trans, le_of_eq, mul_assoc, mul_comm, mul-le-mul_right, mul-pos}
use native.Mathlib.Omega.{arith}
use mathlib.Core.Bool.{Bool, not}
use lib.Ieee.{Float, binary32, sub}
use lib.Ieee.Exact.{HasValue}
use lib.Ieee.Positive.{num, den, den_pos}
use Rattle.rounding.proofs.Rounding.{rounded}
use Rattle.rounding.proofs.Scales.{one}
use Rattle.rounding.proofs.Signed.{Sums, sums_le}
use Rattle.rounding.proofs.Values.{sign, finite_value, scaled_value, sub_round}
use Rattle.rounding.proofs.Results.{whole, Made, made, Within}

-- ±A / c and ±B / c, their exact difference ±w / c, and what f32 makes of it
pub record Gap (k : ℕ) (a b : Float) : Type 0 where
  pub c : ℕ
  pub some : 0 < c
  pub sa : Bool
  pub A : ℕ
  pub first : HasValue a sa A c
  pub first_in : A ≤ k * c
  pub sb : Bool
  pub B : ℕ
  pub second : HasValue b sb B c
  pub second_in : B ≤ k * c
  pub r : Bool
  pub w : ℕ
  pub sums : Sums sb B (not sa) A r w
  pub wide : w ≤ 2 * k * c
  pub difference : Made (sub binary32 b a) r w c (2 * k)

-- the difference, in units
abbrev pub distance : {k : ℕ} {a b : Float} → Gap k a b → ℕ
distance G = rounded (G.w * one) G.c

pub gap : (k : ℕ) (a b : Float) → 2 * k < 2 ^ 24 → Within k a → Within k b → Gap k a b
gap k a b K p q =
    let c = den a * den b in
    let C : 0 < c = mul-pos (den_pos a) (den_pos b) in
    let A = num a * den b in
    let B = num b * den a in
    let va : HasValue a (sign a) A c = scaled_value a (sign a) (num a) (den a) (den b) (finite_value a p.0) in
    let vb : HasValue b (sign b) B c = subst (λ (d : ℕ). HasValue b (sign b) B d) (mul_comm (den b) (den a)) (scaled_value b (sign b) (num b) (den b) (den a) (finite_value b q.0)) in
    let la : A ≤ k * c = le_trans (mul-le-mul_right (den b) p.1) (le_of_eq (mul_assoc k (den a) (den b))) in
    let lb : B ≤ k * c = le_trans (mul-le-mul_right (den a) q.1) (le_of_eq (mul_assoc k (den b) (den a) ∙ ap (λ (z : ℕ). k * z) (mul_comm (den b) (den a)))) in
    let d = sub_round b a (sign b) (sign a) B A c C vb va in
    let l = twice d.w A B c (sums_le (sign b) B (not (sign a)) A d.r d.w d.sums) la lb in
    record {
      c = c;
      some = C;
      sa = sign a;
      A = A;
      first = va;
      first_in = la;
      sb = sign b;
      B = B;
      second = vb;
      second_in = lb;
      r = d.r;
      w = d.w;
      sums = d.sums;
      wide = l;
      difference = made (sub binary32 b a) d.r d.w c (2 * k) C (whole (2 * k) K) d.is l;
    }
  where
    twice : (w x y c : ℕ) → w ≤ y + x → x ≤ k * c → y ≤ k * c → w ≤ 2 * k * c
    twice w x y c h p q = omega arith
