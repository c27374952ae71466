-- The half width of accepted options is from 1/512 to 8,192, and a cap's clip no more than it. Assumes nothing.
use mathlib.Core.Path.{◌≡◌, refl, ap, subst}
use Prim.Native.Nat.{ℕ, ◌*◌, ◌≤◌, ◌<◌}
use native.Mathlib.Nat.{mul-pos, mul-le-mul_right}
use native.Mathlib.Omega.{arith}
use mathlib.Core.Bool.{false}
use mathlib.Core.List.{List}
use lib.Dec.{T, lit<}
use lib.Ieee.{Float, binary32, mul, le, of_bits}
use lib.Ieee.Fits.{and_l, and_r}
use lib.Ieee.Exact.{HasValue}
use lib.Ieee.Positive.{num, den, den_pos, positive, between, own_value, le→cross}
use Rattle.plane.specs.F32.{f32}
use Rattle.options.specs.Options.{within, width_in, line_cap_of, clip_of, prepared_of, accepting, stroke_of}
use Rattle.options.specs.declared.LineCap.{LineCap}
use Rattle.options.specs.declared.LineCap.TheVariants.{Butt, Square, Round}
use Rattle.options.specs.declared.Options.{Options}
use Rattle.options.specs.declared.Stroke.{Stroke}
use Rattle.rounding.proofs.Rounding.{rounded}
use Rattle.rounding.proofs.Scales.{one, grain, one_grains, le_rounded_grains}
use Rattle.rounding.proofs.Values.{mul_round}
use Rattle.rounding.proofs.Results.{whole, made}
use Rattle.far.proofs.Ranges.{width_in_lem, accepted, half_value}

pub record Width (h : Float) : Type 0 where
  pub size : ℕ
  pub value : HasValue h false size one
  pub low : one ≤ 512 * size
  pub high : size ≤ 8192 * one

-- not negative, and no more than the half width
pub record Part {h : Float} (W : Width h) (z : Float) : Type 0 where
  pub size : ℕ
  pub value : HasValue z false size one
  pub high : size ≤ W.size

pub itself : {h : Float} (W : Width h) → Part W h
itself W = record { size = W.size; value = W.value; high = omega arith }

none : {h : Float} (W : Width h) → Part W (f32 0)
unfolding of_bits one
none W = record { size = 0; value = (refl, refl); high = omega arith }

-- ---- half of a width from 1/256 to 16,384
halved : (w : Float) → T (positive w) → den w ≤ 256 * num w → num w ≤ 16384 * den w → Width (mul binary32 w (of_bits binary32 0x3f000000))
halved w p l g =
    let h = of_bits binary32 0x3f000000 in
    let c = den w * 2 in
    let C : 0 < c = mul-pos (den_pos w) (lit< tt) in
    let e = mul_round w h false false (num w) (den w) 1 2 (den_pos w) (lit< tt) (own_value w p) half_value in
    let m = made (mul binary32 w h) false (num w * 1) c 8192 C (whole 8192 (lit< tt)) e (small (num w) (den w) g) in
    record {
      size = rounded (num w * 1 * one) c;
      value = m.value;
      low = fine (rounded (num w * 1 * one) c) (le_rounded_grains 4 (num w * 1 * one) c (lit< tt) C (large (num w) (den w) l));
      high = m.within;
    }
  where
    small : (x y : ℕ) → x ≤ 16384 * y → x * 1 ≤ 8192 * (y * 2)
    small x y h = omega arith

    large : (x y : ℕ) → y ≤ 256 * x → 4 * grain * (y * 2) ≤ x * 1 * one
    large x y h = omega (arith, mul-le-mul_right grain h, ap (λ (z : ℕ). x * z) one_grains)

    fine : (m : ℕ) → 4 * grain ≤ m → one ≤ 512 * m
    fine m h = omega (arith, one_grains)

width_halved : (w : Float) → T (width_in w) → Width (mul binary32 w (of_bits binary32 0x3f000000))
unfolding within of_bits
width_halved w t =
    let a = of_bits binary32 0x3b800000 in
    let b = of_bits binary32 0x46800000 in
    let l = and_l (le a w) (le w b) t in
    let h = and_r (le a w) (le w b) t in
    let p = between a w b tt tt l h in
    halved w p (lower (num w) (den w) (le→cross a w tt p l)) (upper (num w) (den w) (le→cross w b p tt h))
  where
    lower : (x y : ℕ) → 1 * 1 * y ≤ x * 256 → y ≤ 256 * x
    lower x y h = omega arith

    upper : (x y : ℕ) → x * 1 ≤ 1 * 16384 * y → x ≤ 16384 * y
    upper x y h = omega arith

-- ---- of accepted options
clip_part : (cap : LineCap) {h : Float} (W : Width h) → Part W (clip_of cap h)
clip_part Butt W = none W
clip_part Square W = itself W
clip_part Round W = none W

pub record Wide (o : Stroke) : Type 0 where
  pub half : Width o.half_width
  pub clip : Part half o.clip

prepared_wide : (o : Options) → T (width_in o.width) → Wide (prepared_of o)
unfolding prepared_of
prepared_wide o t = let W = width_halved o.width t in record { half = W; clip = clip_part (line_cap_of o.cap) W }

pub wide : (options : Options) (ds : List Float) (o : Stroke) → stroke_of options ds ≡ accepting o → Wide o
wide options ds o e = let a = accepted options ds o e in subst Wide a.prepared (prepared_wide options (width_in_lem options a.within))
