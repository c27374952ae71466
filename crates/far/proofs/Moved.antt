-- Two coordinates and an offset that is added to both: where the coordinates are ten grains apart, the two sums, each rounded, are two grains apart at
-- least. Below 65,536 a sum errs by four grains at most, so two of them by eight, whatever the signs (`lines`); what is left is over one scale.
-- Assumes nothing.
use mathlib.Core.Path.{◌≡◌, ap, subst}
use mathlib.Core.Logic.{◌⊎◌, inl, inr}
use Prim.Native.Nat.{ℕ, ◌+◌, ◌*◌, ◌≤◌, ◌<◌}
use native.Mathlib.Nat.{le_of_eq, le_of_lt, lt_of_lt_of_le, mul_comm, mul_right_comm, mul-le-mul_right, mul-lt-mul_of_pos_right, le_of_mul-le-mul_right, mul-pos}
use native.Mathlib.Omega.{arith}
use mathlib.Core.Bool.{Bool, true, false, not}
use lib.Dec.{lit<}
use lib.Ieee.{Float, binary32, add, sub}
use lib.Ieee.Exact.{HasValue}
use Rattle.rounding.proofs.Rounding.{rounded}
use Rattle.rounding.proofs.Scales.{one, grain, one_pos, one_grains, le_rounded_grains, rounded_error_grains}
use Rattle.rounding.proofs.Signed.{above, under, above_under, above_not, under_not, Sums, sums_le, sums_times}
use Rattle.rounding.proofs.Values.{scaled_value, add_round, sub_round}
use Rattle.rounding.proofs.Results.{whole, Made, made, Bounded, made_bounded}
use Rattle.rounding.proofs.Differences.{Gap}
use Rattle.far.proofs.Apart.{Apart}
use Rattle.far.proofs.Offsets.{Offset}

-- ---- of each number the part above zero and the part below: D = B - A, X = A + O, Y = B + O, G and H are these rounded, W = H - G
lines : (Dp Dn Ap An Bp Bn Op On Xp Xn Yp Yn Gp Gn Hp Hn Wp Wn d : ℕ)
    → Dp + Bn + Ap ≡ Dn + Bp + An → Xp + An + On ≡ Xn + Ap + Op → Yp + Bn + On ≡ Yn + Bp + Op
    → 2 * Gp + 2 * Xn ≤ 2 * Gn + 2 * Xp + 8 * d → 2 * Gn + 2 * Xp ≤ 2 * Gp + 2 * Xn + 8 * d
    → 2 * Hp + 2 * Yn ≤ 2 * Hn + 2 * Yp + 8 * d → 2 * Hn + 2 * Yp ≤ 2 * Hp + 2 * Yn + 8 * d
    → Wp + Hn + Gp ≡ Wn + Hp + Gn
    → (10 * d + Dn ≤ Dp → 2 * d + Wn ≤ Wp) × (10 * d + Dp ≤ Dn → 2 * d + Wp ≤ Wn)
lines Dp Dn Ap An Bp Bn Op On Xp Xn Yp Yn Gp Gn Hp Hn Wp Wn d a b c e f g h i = (λ (j : 10 * d + Dn ≤ Dp). omega arith, λ (j : 10 * d + Dp ≤ Dn). omega arith)

-- ±g is ±w / c, but for four grains
abbrev Errs : Bool → ℕ → ℕ → ℕ → Type 0
Errs r w g c =
    (2 * (above r g * c) + 2 * (under r w * one) ≤ 2 * (under r g * c) + 2 * (above r w * one) + 8 * (grain * c))
    × (2 * (under r g * c) + 2 * (above r w * one) ≤ 2 * (above r g * c) + 2 * (under r w * one) + 8 * (grain * c))

rounded_errs : (r : Bool) (w c : ℕ) → 0 < c → w * one < 65536 * one * c → Errs r w (rounded (w * one) c) c
rounded_errs true w c C h = let n = rounded_error_grains (w * one) c C h in (omega (arith, n.0, n.1), omega (arith, n.0, n.1))
rounded_errs false w c C h = let n = rounded_error_grains (w * one) c C h in (omega (arith, n.0, n.1), omega (arith, n.0, n.1))

-- ten grains, with the sign
ten_signed : (r : Bool) (w c : ℕ) → 10 * c ≤ 2048 * w → (10 * (grain * c) + under r w * one ≤ above r w * one) ⊎ (10 * (grain * c) + above r w * one ≤ under r w * one)
ten_signed true w c h = inr (omega (arith, mul-le-mul_right grain h, ap (λ (z : ℕ). w * z) one_grains))
ten_signed false w c h = inl (omega (arith, mul-le-mul_right grain h, ap (λ (z : ℕ). w * z) one_grains))

-- ---- the same over one scale
sums_taken : (s : Bool) (b : ℕ) (t : Bool) (a : ℕ) (r : Bool) (w : ℕ) → Sums s b (not t) a r w → above r w + under s b + above t a ≡ under r w + above s b + under t a
sums_taken s b t a r w e = rw (above_not, under_not) at e

all_times : (x y z u v t k : ℕ) → x + y + z ≡ u + v + t → x * k + y * k + z * k ≡ u * k + v * k + t * k
all_times x y z u v t k e = let f : (x + y + z) * k ≡ (u + v + t) * k = ap (λ (i : ℕ). i * k) e in omega arith

module _ (c : ℕ) (C : 0 < c) (sa sb so : Bool) (a b o : ℕ) (r r1 r2 r3 : Bool) (w w1 w2 g1 g2 w3 : ℕ) where
  spread : Sums sb b (not sa) a r w → 10 * c ≤ 2048 * w → Sums sa a so o r1 w1 → Sums sb b so o r2 w2 → Errs r1 w1 g1 c → Errs r2 w2 g2 c → Sums r2 g2 (not r1) g1 r3 w3 → 2 * grain ≤ w3
  spread e h e1 e2 n1 n2 e3 =
      let l =
      lines (above r w * one) (under r w * one) (above sa a * one) (under sa a * one) (above sb b * one) (under sb b * one) (above so o * one) (under so o * one)
      (above r1 w1 * one) (under r1 w1 * one) (above r2 w2 * one) (under r2 w2 * one) (above r1 g1 * c) (under r1 g1 * c) (above r2 g2 * c) (under r2 g2 * c)
      (above r3 w3 * c) (under r3 w3 * c) (grain * c)
      (all_times (above r w) (under sb b) (above sa a) (under r w) (above sb b) (under sa a) one (sums_taken sb b sa a r w e))
      (all_times (above r1 w1) (under sa a) (under so o) (under r1 w1) (above sa a) (above so o) one e1)
      (all_times (above r2 w2) (under sb b) (under so o) (under r2 w2) (above sb b) (above so o) one e2)
      n1.0 n1.1 n2.0 n2.1
      (all_times (above r3 w3) (under r2 g2) (above r1 g1) (under r3 w3) (above r2 g2) (under r1 g1) c (sums_taken r2 g2 r1 g1 r3 w3 e3)) in
      let p = above_under r3 w3 in
      le_of_mul-le-mul_right
      (elim (ten_signed r w c h) [
        | inl i ↦ size_at_least (above r3 w3) (under r3 w3) (l.0 i) p
        | inr i ↦ size_at_least (under r3 w3) (above r3 w3) (l.1 i) (swapped (above r3 w3) (under r3 w3) p)
      ])
      C
    where
      size_at_least : (x y : ℕ) → 2 * (grain * c) + y * c ≤ x * c → x + y ≡ w3 → 2 * grain * c ≤ w3 * c
      size_at_least x y h e = let f : (x + y) * c ≡ w3 * c = ap (λ (i : ℕ). i * c) e in omega arith

      swapped : (x y : ℕ) → x + y ≡ w3 → y + x ≡ w3
      swapped x y e = omega arith

-- ---- the offset added to both
pub record Moved {a b : Float} (o : Float) (G : Gap 32768 a b) : Type 0 where
  pub difference : Bounded (sub binary32 (add binary32 b o) (add binary32 a o)) 131072
  pub far : Apart G → 2 * grain ≤ difference.size

module _ {o : Float} (O : Offset o) where
  -- x = ±X / c with the offset: ±w / (c * one), rounded
  record Shifted (x : Float) (s : Bool) (X c : ℕ) : Type 0 where
    pub r : Bool
    pub w : ℕ
    pub sum : Made (add binary32 x o) r w (c * one) 65536
    pub sums : Sums s (X * one) O.s (O.size * c) r w
    pub errs : Errs r w (rounded (w * one) (c * one)) (c * one)

  shifted : (x : Float) (s : Bool) (X c : ℕ) → 0 < c → HasValue x s X c → X ≤ 32768 * c → Shifted x s X c
  shifted x s X c C h k =
      let K : 0 < c * one = mul-pos C one_pos in
      let vx : HasValue x s (X * one) (c * one) = scaled_value x s X c one h in
      let vo : HasValue o O.s (O.size * c) (c * one) = subst (λ (d : ℕ). HasValue o O.s (O.size * c) d) (mul_comm one c) (scaled_value o O.s O.size one c O.value) in
      let e = add_round x o s O.s (X * one) (O.size * c) (c * one) K vx vo in
      let n = below e.w O.size K (sums_le s (X * one) O.s (O.size * c) e.r e.w e.sums) O.within in
      record {
        r = e.r;
        w = e.w;
        sum = made (add binary32 x o) e.r e.w (c * one) 65536 K (whole 65536 (lit< tt)) e.is (le_of_lt n);
        sums = e.sums;
        errs = rounded_errs e.r e.w (c * one) K (lt_of_lt_of_le (mul-lt-mul_of_pos_right n one_pos) (le_of_eq (mul_right_comm 65536 (c * one) one)));
      }
    where
      below : (w p : ℕ) → 0 < c * one → w ≤ X * one + p * c → p ≤ 24576 * one → w < 65536 * (c * one)
      below w p K m l = omega (arith, mul-le-mul_right one k, mul-le-mul_right c l)

  pub moved : {a b : Float} (G : Gap 32768 a b) → Moved o G
  moved {a} {b} G =
      let c = G.c in
      let A = shifted a G.sa G.A c G.some G.first G.first_in in
      let B = shifted b G.sb G.B c G.some G.second G.second_in in
      let ga = rounded (A.w * one) (c * one) in
      let gb = rounded (B.w * one) (c * one) in
      let d = sub_round (add binary32 b o) (add binary32 a o) B.r A.r gb ga one one_pos B.sum.value A.sum.value in
      let m : d.w ≤ 131072 * one = doubled d.w ga gb (sums_le B.r gb (not A.r) ga d.r d.w d.sums) A.sum.within B.sum.within in
      let z = sub binary32 (add binary32 b o) (add binary32 a o) in
      record {
        difference = made_bounded (made z d.r d.w one 131072 one_pos (whole 131072 (lit< tt)) d.is m);
        far = λ (h : Apart G).
            le_rounded_grains 2 (d.w * one) one (lit< tt) one_pos
            (mul-le-mul_right one
            (spread (c * one) (mul-pos G.some one_pos) G.sa G.sb O.s (G.A * one) (G.B * one) (O.size * c) G.r A.r B.r d.r (G.w * one) A.w B.w ga gb d.w
            (sums_times G.sb G.B (not G.sa) G.A G.r G.w one G.sums) (ten_at G.w c h) A.sums B.sums A.errs B.errs d.sums));
      }
    where
      doubled : (w x y : ℕ) → w ≤ y + x → x ≤ 65536 * one → y ≤ 65536 * one → w ≤ 131072 * one
      doubled w x y h p q = omega arith

      ten_at : (w c : ℕ) → 10 * c ≤ 2048 * w → 10 * (c * one) ≤ 2048 * (w * one)
      ten_at w c h = omega (arith, mul-le-mul_right one h)
