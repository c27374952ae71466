-- What the limits tell of the numbers within them: a half width is finite and at most 8,192, and a merge range squared at least 2 ^ -14; and that accepted
-- options have such a half width and such a range, and an accepted pattern. Assumes nothing.
use mathlib.Core.Path.{◌≡◌, refl, sym, ap, subst}
use Prim.Native.Nat.{ℕ, ◌*◌, ◌≤◌, ◌<◌}
use native.Mathlib.Nat.{le_trans, le_of_eq, le_of_lt, mul-le-mul, mul-le-mul_right, mul-pos}
use native.Mathlib.Omega.{arith}
use mathlib.Core.Bool.{Bool, true, false, ◌&&◌, ◌||◌, false≢true}
use mathlib.Core.List.{List}
use lib.IntN.{ℤ, pos}
use lib.Dec.{T, ltb, eqb, ltb→lt, eqb→eq, lit<}
use lib.Ieee.{Float, nan, inf, fin, binary32, up, down, unlike, neg, mul, lt, eq, le, of_bits}
use lib.Ieee.Bits.{is_true}
use lib.Ieee.Fits.{and_l, and_r}
use lib.Ieee.Scale.{finite}
use lib.Ieee.Exact.{HasValue}
use lib.Ieee.Positive.{num, den, den_pos, between, positive-finite, le→cross}
use Rattle.plane.specs.Normal.{pick}
use Rattle.plane.specs.F32.{size_at_most}
use Rattle.dashes.specs.Pattern.{pattern_in}
use Rattle.options.specs.Options.{within, width_in, limit_in, merge_in, join_in, cap_in, detail_in, in_range, prepared_of, accepting, stroke_of}
use Rattle.options.specs.declared.Options.{Options}
use Rattle.options.specs.declared.Stroke.{Stroke}
use Rattle.options.specs.declared.StrokeAnswer.{StrokeAnswer}
use Rattle.rounding.proofs.Rounding.{rounded}
use Rattle.rounding.proofs.Scales.{one, speck, le_rounded_specks}
use Rattle.rounding.proofs.Signed.{alike}
use Rattle.rounding.proofs.Values.{sign, finite_value, mul_round}
use Rattle.rounding.proofs.Results.{whole, Made, made, made_bounded, Within, bounded_within}
use Rattle.far.specs.Short.{Half, Range}

-- points whose squared distance is not below it are far enough apart: 256 specks, 2 ^ -14, or more
pub record Limit (x : Float) : Type 0 where
  pub size : ℕ
  pub value : HasValue x false size one
  pub least : 256 * speck ≤ size

told : (t : Bool) → t ≡ true → T t
told true e = tt
told false e = absurd (false≢true e)

-- ---- what is at most n * 2 ^ g in size, on either side of zero
less_or_equal : (a b : ℕ) (x y : Bool) → (T x → a < b) → (T y → a ≡ b) → T (x || (y && true)) → a ≤ b
less_or_equal a b true y h k t = le_of_lt (h tt)
less_or_equal a b false true h k t = le_of_eq (k tt)
less_or_equal a b false false h k t = absurd t

sized : (n : ℕ) (g : ℤ) (x : Float) → size_at_most x (fin false n g) ≡ true → T (finite x) × (num x * down g ≤ n * up g * den x)
unfolding neg lt eq le
sized n g nan e = absurd (false≢true e)
sized n g (inf true) e = absurd (false≢true e)
sized n g (inf false) e = absurd (false≢true e)
sized n g (fin true m d) e =
    let a = m * up d * down g in
    let b = n * up g * down d in
    let t = and_l (le (fin true n g) (fin true m d)) (le (fin true m d) (fin false n g)) (told _ e) in
    (tt, less_or_equal a b (ltb a b) (eqb b a) (ltb→lt a b) (λ i. sym (eqb→eq b a i)) t)
sized n g (fin false m d) e =
    let a = m * up d * down g in
    let b = n * up g * down d in
    let t = and_r (le (fin true n g) (fin false m d)) (le (fin false m d) (fin false n g)) (told _ e) in
    (tt, less_or_equal a b (ltb a b) (eqb a b) (ltb→lt a b) (eqb→eq a b) t)

pub half : (h : Float) → Half h → Within 8192 h
unfolding of_bits
half h e = let s = sized 1 (pos 13) h e in (s.0, plain (num h) (den h) s.1)
  where
    plain : (x y : ℕ) → x * 1 ≤ 1 * 8192 * y → x ≤ 8192 * y
    plain x y h = omega arith

-- ---- half of a width
width_bound : (w : Float) → T (width_in w) → Within 16384 w
unfolding within of_bits
width_bound w t =
    let l = and_l (le (of_bits binary32 0x3b800000) w) (le w (of_bits binary32 0x46800000)) t in
    let h = and_r (le (of_bits binary32 0x3b800000) w) (le w (of_bits binary32 0x46800000)) t in
    let p = between (of_bits binary32 0x3b800000) w (of_bits binary32 0x46800000) tt tt l h in
    (positive-finite w p, small (num w) (den w) (le→cross w (of_bits binary32 0x46800000) p tt h))
  where
    small : (x y : ℕ) → x * 1 ≤ 1 * 16384 * y → x ≤ 16384 * y
    small x y h = omega arith

pub half_value : HasValue (of_bits binary32 0x3f000000) false 1 2
unfolding of_bits
half_value = (refl, refl)

halved : (w : Float) → Within 16384 w → Within 8192 (mul binary32 w (of_bits binary32 0x3f000000))
halved w p =
    let h = of_bits binary32 0x3f000000 in
    let z = mul binary32 w h in
    let s = unlike (sign w) false in
    let e = mul_round w h (sign w) false (num w) (den w) 1 2 (den_pos w) (lit< tt) (finite_value w p.0) half_value in
    bounded_within (made_bounded (made z s (num w * 1) (den w * 2) 8192 (mul-pos (den_pos w) (lit< tt)) (whole 8192 (lit< tt)) e (small (num w) (den w) p.1)))
  where
    small : (x y : ℕ) → x ≤ 16384 * y → x * 1 ≤ 8192 * (y * 2)
    small x y h = omega arith

-- ---- the merge range squared
merge_bounds : (r : Float) → T (merge_in r) → (den r ≤ 128 * num r) × Within 1 r
unfolding within of_bits
merge_bounds r t =
    let l = and_l (le (of_bits binary32 0x3c000000) r) (le r (of_bits binary32 0x3f800000)) t in
    let h = and_r (le (of_bits binary32 0x3c000000) r) (le r (of_bits binary32 0x3f800000)) t in
    let p = between (of_bits binary32 0x3c000000) r (of_bits binary32 0x3f800000) tt tt l h in
    let low = le→cross (of_bits binary32 0x3c000000) r tt p l in
    let high = le→cross r (of_bits binary32 0x3f800000) p tt h in
    (large (num r) (den r) low, (positive-finite r p, small (num r) (den r) high))
  where
    large : (x y : ℕ) → 1 * 1 * y ≤ x * 128 → y ≤ 128 * x
    large x y h = omega arith

    small : (x y : ℕ) → x * 1 ≤ 1 * 1 * y → x ≤ 1 * y
    small x y h = omega arith

one_specks : one ≡ 4194304 * speck
unfolding one speck
one_specks = refl

squared : (r : Float) → (den r ≤ 128 * num r) × Within 1 r → Limit (mul binary32 r r)
squared r b =
    let n = num r in
    let d = den r in
    let z = mul binary32 r r in
    let v = finite_value r b.1.0 in
    let C = mul-pos (den_pos r) (den_pos r) in
    let e = mul_round r r (sign r) (sign r) n d n d (den_pos r) (den_pos r) v v in
    let m : Made z false (n * n) (d * d) 1 =
    made z false (n * n) (d * d) 1 C (whole 1 (lit< tt)) (rw (alike (sign r)) at e) (le_trans (mul-le-mul b.1.1 b.1.1) (le_of_eq (unit d))) in
    let l : d * d ≤ 16384 * (n * n) = le_trans (mul-le-mul b.0 b.0) (le_of_eq (regroup n)) in
    record { size = rounded (n * n * one) (d * d); value = m.value; least = le_rounded_specks 256 (n * n * one) (d * d) (lit< tt) C (large (d * d) (n * n) l) }
  where
    unit : (d : ℕ) → 1 * d * (1 * d) ≡ 1 * (d * d)
    unit d = omega arith

    regroup : (n : ℕ) → 128 * n * (128 * n) ≡ 16384 * (n * n)
    regroup n = omega arith

    large : (x y : ℕ) → x ≤ 16384 * y → 256 * speck * x ≤ y * one
    large x y h = omega (arith, mul-le-mul_right speck h, ap (λ (z : ℕ). y * z) one_specks)

pub range_limit : (r : Float) → Range r → Limit (mul binary32 r r)
range_limit r e = squared r (merge_bounds r (told (merge_in r) e))

-- ---- accepted options
module _ (o : Options) (e : in_range o ≡ true) where
  abbrev floats : Bool
  floats = width_in o.width && limit_in o.miter_limit && merge_in o.merge_range

  floats_in : T floats
  unfolding in_range
  floats_in = and_l floats (detail_in o.detail) (and_l (floats && detail_in o.detail) (join_in o.line_join && cap_in o.cap) (told (in_range o) e))

  pub width_in_lem : T (width_in o.width)
  width_in_lem = and_l (width_in o.width) (limit_in o.miter_limit) (and_l (width_in o.width && limit_in o.miter_limit) (merge_in o.merge_range) floats_in)

  merge_in_lem : T (merge_in o.merge_range)
  merge_in_lem = and_r (width_in o.width && limit_in o.miter_limit) (merge_in o.merge_range) floats_in

-- what options that come to the stroke o are
pub record Accepted (options : Options) (ds : List Float) (o : Stroke) : Type 0 where
  pub within : in_range options ≡ true
  pub pattern : pattern_in ds o.offset ≡ true
  pub prepared : prepared_of options ≡ o

pub accepted : (options : Options) (ds : List Float) (o : Stroke) → stroke_of options ds ≡ accepting o → Accepted options ds o
unfolding stroke_of prepared_of
accepted options ds o e =
    let c = chosen (in_range options && pattern_in ds options.offset) (prepared_of options) _ refl e in
    let t = told (in_range options && pattern_in ds options.offset) c.0 in
    record {
      within = is_true (in_range options) (and_l (in_range options) (pattern_in ds options.offset) t);
      pattern = subst (λ (s : Stroke). pattern_in ds s.offset ≡ true) c.1 (is_true (pattern_in ds options.offset) (and_r (in_range options) (pattern_in ds options.offset) t));
      prepared = c.1;
    }
  where
    chosen : (t : Bool) (s : Stroke) (refused : StrokeAnswer) → 1 ≡ refused.number → pick t (accepting s) refused ≡ accepting o → (t ≡ true) × (s ≡ o)
    chosen true s refused r e = (refl, ap (λ (a : StrokeAnswer). a.stroke) e)
    chosen false s refused r e = let n = ap (λ (a : StrokeAnswer). a.number) e in absurd (omega (arith, r, n))

pub prepared_half : (o : Options) → (prepared_of o).half_width ≡ mul binary32 o.width (of_bits binary32 0x3f000000)
unfolding prepared_of
prepared_half o = refl

pub half_width_lem : (options : Options) (ds : List Float) (o : Stroke) → stroke_of options ds ≡ accepting o → Within 8192 o.half_width
half_width_lem options ds o e =
    let a = accepted options ds o e in
    subst (λ (s : Stroke). Within 8192 s.half_width) a.prepared (subst (Within 8192) (sym (prepared_half options)) (halved options.width (width_bound options.width (width_in_lem options a.within))))

prepared_near : (o : Options) → (prepared_of o).near ≡ mul binary32 o.merge_range o.merge_range
unfolding prepared_of
prepared_near o = refl

pub near_limit : (options : Options) (ds : List Float) (o : Stroke) → stroke_of options ds ≡ accepting o → Limit o.near
near_limit options ds o e =
    let a = accepted options ds o e in
    let r = options.merge_range in
    subst (λ (s : Stroke). Limit s.near) a.prepared (subst Limit (sym (prepared_near options)) (squared r (merge_bounds r (merge_in_lem options a.within))))
