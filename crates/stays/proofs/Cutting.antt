-- A cut lies within 32,768, as the points do between which it falls, and the divisor of its share is above 0. The share is at most 1, so the exact
-- sum lies between `from` and a difference's rounding beyond `to`, half a place at most: at 32,768 that is a tie, which goes to the even number,
-- 32,768 itself. It occurs: from -3/512 to 32,768. Assumes nothing.
use mathlib.Core.Path.{◌≡◌, refl, sym, ap, ◌∙◌, subst}
use Prim.Native.Nat.{ℕ, ◌+◌, ◌-◌, ◌*◌, ◌^◌, ◌≤◌, ◌<◌}
use mathlib.Core.Logic.{inl, inr}
use native.Mathlib.Nat.{le_trans, le_of_eq, le_of_lt, eq-or-lt_of_le, lt_of_lt_of_le, lt_of_not-le, one-mul, mul_comm, mul_assoc, mul_right_comm, mul-le-mul_right, mul-lt-mul_of_pos_right, mul-pos}
use native.Mathlib.Decide.{dec_le}
use native.Mathlib.Omega.{arith}
use mathlib.Core.Bool.{Bool, true, false, not, ◌&&◌, ◌||◌, false≢true}
use lib.Dec.{T, ltb, eqb, ltb→lt, lt→ltb, eqb→eq, lit<, lit≤}
use lib.Ieee.{Float, nan, inf, fin, binary32, up, down, unlike, neg, add, sub, mul, div, lt, eq, le, of_bits}
use lib.Ieee.Bits.{is_true}
use lib.Ieee.Fits.{and_l, and_r, and_i, eq→eqb, down_pos}
use lib.Ieee.Exact.{HasValue}
use Rattle.plane.specs.Vector.{plus_of, minus_of, times_of}
use Rattle.path.specs.Coordinates.{coordinate_in}
use Rattle.rounding.proofs.Rounding.{rounded, le_rounded}
use Rattle.rounding.proofs.Scales.{one, grain, one_pos, rounded_le_ones, rounded_le_power, rounded_error_grains}
use Rattle.rounding.proofs.Signed.{same_sign, Sums, sums_times}
use Rattle.rounding.proofs.Values.{scaled_value, round_value, mul_round, div_round, add_round}
use Rattle.rounding.proofs.Results.{Within, bounded_within}
use Rattle.rounding.proofs.Differences.{gap}
use Rattle.dashes.specs.Marks.{falls_on, cut_of}
use Rattle.dashes.specs.declared.spot.Spot.{Spot}
use Rattle.stays.specs.Stays.{Inside}
use Rattle.stays.proofs.Order.{rounded_mono, rounded_again, rounded_tie}
use Rattle.stays.proofs.Compare.{sub_plain, le_plain, lt_plain, no_more}
use Rattle.stays.proofs.Wearing.{told}

-- ---- the share
-- x is n units of 2 ^ -149
abbrev pub Units : Float → ℕ → Type 0
Units x n = HasValue x false n one

-- an edge and a cut, by their advancements
pub record Placed (s : Spot) : Type 0 where
  pub A : ℕ
  pub start : Units s.start A
  pub E : ℕ
  pub end : Units s.end E
  pub E-in : E ≤ 2 ^ 100 * one
  pub B : ℕ
  pub at : Units s.beat.at B

difference_of : (x y : Float) (a b : ℕ) → Units x a → Units y b → b ≤ a → a ≤ 2 ^ 100 * one → Units (sub binary32 x y) (rounded ((a - b) * one) one)
difference_of x y a b h k l m =
    subst (λ (z : Float). Units z (rounded ((a - b) * one) one)) (sym (sub_plain x y a b one one_pos h k l))
    (round_value false (a - b) one (le_trans (rounded_mono ((a - b) * one) one (a * one) one one_pos one_pos (mul-le-mul_right one (mul-le-mul_right one (less a b)))) (powers (a * one) (mul-le-mul_right one m))))
  where
    less : (a b : ℕ) → a - b ≤ a
    less a b = omega arith

    powers : (n : ℕ) → n ≤ 2 ^ 100 * one * one → rounded n one ≤ 2 ^ 100 * one
    powers n h = rounded_le_power 100 n one one_pos h

module _ (s : Spot) (P : Placed s) (F : falls_on s ≡ true) where
  pub first : P.A ≤ P.B
  unfolding falls_on
  first = le_plain s.start s.beat.at P.A P.B one one_pos P.start P.at (is_true _ (and_l (le s.start s.beat.at) (lt s.beat.at s.end) (told _ F)))

  pub last : P.B < P.E
  unfolding falls_on
  last = lt_plain s.beat.at s.end P.B P.E one one_pos P.at P.end (is_true _ (and_r (le s.start s.beat.at) (lt s.beat.at s.end) (told _ F)))

  abbrev U : ℕ
  U = rounded ((P.B - P.A) * one) one

  abbrev V' : ℕ
  V' = rounded ((P.E - P.A) * one) one

  -- the divisor is above 0
  pub divisor : Units (sub binary32 s.end s.start) V' × (0 < V')
  divisor =
      let l : P.A ≤ P.E = let a = first in let b = last in omega arith in
      let d : 1 ≤ P.E - P.A = let a = first in let b = last in omega arith in
      (difference_of s.end s.start P.E P.A P.end P.start l P.E-in, le_rounded ((P.E - P.A) * one) one one_pos 1 0 (lit< tt) (mul-le-mul_right one d))

  -- the share is from 0 to 1
  abbrev K : ℕ
  K = rounded (U * one) V'

  abbrev pub share : Float
  share = div binary32 (sub binary32 s.beat.at s.start) (sub binary32 s.end s.start)

  pub share_in : Units share K × (K ≤ one)
  share_in =
      let d = divisor in
      let l : P.B ≤ P.E = le_of_lt last in
      let u = difference_of s.beat.at s.start P.B P.A P.at P.start first (le_trans l P.E-in) in
      let order : U ≤ V' = rounded_mono ((P.B - P.A) * one) one ((P.E - P.A) * one) one one_pos one_pos (mul-le-mul_right one (mul-le-mul_right one (less P.B P.E P.A l))) in
      let m : K ≤ 1 * one = rounded_le_ones 1 (U * one) V' (lit< tt) d.1 (le_trans (mul-le-mul_right one order) (le_of_eq (turn V' one))) in
      let e = div_round (sub binary32 s.beat.at s.start) (sub binary32 s.end s.start) false false U V' one d.1 one_pos u d.0 in
      (subst (λ (z : Float). Units z K) (sym e) (round_value false U V' (le_trans m (mul-le-mul_right one (lit≤ tt)))), le_trans m (le_of_eq (one-mul one)))
    where
      less : (b e a : ℕ) → b ≤ e → b - a ≤ e - a
      less b e a h = omega arith

      turn : (v o : ℕ) → v * o ≡ 1 * o * v
      turn v o = omega arith

-- ---- the sum
-- ±A is from, ±B to, ±w their difference, ±P a part of its rounding D, ±w2 the sum of from and that
stay : (sa sb r q : Bool) (A B w P D x C g : ℕ) → Sums sb B (not sa) A r w → Sums sa A r P q x → A ≤ 32768 * C → B ≤ 32768 * C → P ≤ D → 2 * D ≤ 2 * w + 8 * g → 2 * x ≤ 65536 * C + 8 * g
stay true true true true A B w P D x C g e f a b p d = omega arith
stay true true true false A B w P D x C g e f a b p d = omega arith
stay true true false true A B w P D x C g e f a b p d = omega arith
stay true true false false A B w P D x C g e f a b p d = omega arith
stay true false true true A B w P D x C g e f a b p d = omega arith
stay true false true false A B w P D x C g e f a b p d = omega arith
stay true false false true A B w P D x C g e f a b p d = omega arith
stay true false false false A B w P D x C g e f a b p d = omega arith
stay false true true true A B w P D x C g e f a b p d = omega arith
stay false true true false A B w P D x C g e f a b p d = omega arith
stay false true false true A B w P D x C g e f a b p d = omega arith
stay false true false false A B w P D x C g e f a b p d = omega arith
stay false false true true A B w P D x C g e f a b p d = omega arith
stay false false true false A B w P D x C g e f a b p d = omega arith
stay false false false true A B w P D x C g e f a b p d = omega arith
stay false false false false A B w P D x C g e f a b p d = omega arith

-- a difference of at most 65,536 is rounded up by half a place at most
rounded_up : (w c : ℕ) → 0 < c → w ≤ 65536 * c → 2 * (rounded (w * one) c * c) ≤ 2 * (w * one) + 8 * (grain * c)
rounded_up w c C h = go (dec_le (65536 * c) w)
  where
    go : Dec (65536 * c ≤ w) → 2 * (rounded (w * one) c * c) ≤ 2 * (w * one) + 8 * (grain * c)
    go (yes l) =
        let m : rounded (w * one) c ≤ 65536 * one = rounded_le_ones 65536 (w * one) c (lit< tt) C (le_trans (mul-le-mul_right one h) (le_of_eq (mul_right_comm 65536 c one))) in
        exact (rounded (w * one) c) one (grain * c) (mul-le-mul_right c m) (mul-le-mul_right one l)
      where
        exact : (r o g : ℕ) → r * c ≤ 65536 * o * c → 65536 * c * o ≤ w * o → 2 * (r * c) ≤ 2 * (w * o) + 8 * g
        exact r o g a b = omega arith
    go (no f) =
        let l : w < 65536 * c = lt_of_not-le f in
        let n = rounded_error_grains (w * one) c C (lt_of_lt_of_le (mul-lt-mul_of_pos_right l one_pos) (le_of_eq (mul_right_comm 65536 c one))) in
        le_trans n.0 (le_of_eq (turn (w * one) grain c))
      where
        turn : (x g c : ℕ) → 2 * x + 8 * g * c ≡ 2 * x + 8 * (g * c)
        turn x g c = omega arith

-- a tie at 32,768
half_up : (x c : ℕ) → 0 < c → 2 * x ≤ 65536 * (c * one) + 8 * (grain * c) → rounded (x * one) (c * one) ≤ 32768 * one
unfolding one grain
half_up x c C h = subst (λ (z : ℕ). rounded (x * 2 ^ 149) (c * 2 ^ 149) ≤ z) same (rounded_tie (x * 2 ^ 149) (c * 2 ^ 149) 141 (mul-pos C one_pos) (scaled x c (2 ^ 138) (2 ^ 149) (2 ^ 141) h refl refl))
  where
    same : 8388608 * 2 ^ 141 ≡ 32768 * 2 ^ 149
    same = refl

    scaled : (x c g o j : ℕ) → 2 * x ≤ 65536 * (c * o) + 8 * (g * c) → o ≡ 2048 * g → j ≡ 8 * g → 2 * (x * o) ≤ 16777217 * (c * o * j)
    scaled x c g o j h p q =
        let a : 2 * x * o ≤ (65536 * (c * o) + 8 * (g * c)) * o = mul-le-mul_right o h in
        let b : 65536 * (c * o) ≡ 16777216 * (c * j) = let u : c * o ≡ c * (2048 * g) = ap (λ (z : ℕ). c * z) p in let v : c * j ≡ c * (8 * g) = ap (λ (z : ℕ). c * z) q in omega arith in
        let d : 8 * (g * c) ≡ c * j = let v : c * j ≡ c * (8 * g) = ap (λ (z : ℕ). c * z) q in omega arith in
        let e : (65536 * (c * o) + 8 * (g * c)) * o ≡ (16777216 * (c * j) + c * j) * o = ap (λ (z : ℕ). z * o) (ap (λ (z : ℕ). z + 8 * (g * c)) b ∙ ap (λ (z : ℕ). 16777216 * (c * j) + z) d) in
        omega arith

pub inside : (f t k : Float) (K : ℕ) → Within 32768 f → Within 32768 t → Units k K → K ≤ one → Within 32768 (add binary32 f (mul binary32 (sub binary32 t f) k))
inside f t k K F G v h =
    let g = gap 32768 f t (lit< tt) F G in
    let c = g.c in
    let C = g.some in
    let d = sub binary32 t f in
    let D = rounded (g.w * one) c in
    let dv = g.difference in
    let p = mul binary32 d k in
    let P = rounded (D * K * one) (one * one) in
    let O : 0 < one * one = mul-pos one_pos one_pos in
    let P-in : P ≤ D = rounded_again (g.w * one) c (D * K * one) (one * one) O (part D K one h) in
    let pv : HasValue p g.r P one =
    subst (λ (q : Bool). HasValue p q P one) (same_sign g.r)
    (subst (λ (z : Float). HasValue z (unlike g.r false) P one) (sym (mul_round d k g.r false D one K one one_pos one_pos dv.value v))
    (round_value (unlike g.r false) (D * K) (one * one) (le_trans P-in (le_trans dv.within (mul-le-mul_right one (lit≤ tt)))))) in
    let S : 0 < c * one = mul-pos C one_pos in
    let fv : HasValue f g.sa (g.A * one) (c * one) = scaled_value f g.sa g.A c one g.first in
    let pc : HasValue p g.r (P * c) (c * one) = subst (λ (z : ℕ). HasValue p g.r (P * c) z) (mul_comm one c) (scaled_value p g.r P one c pv) in
    let e = add_round f p g.sa g.r (g.A * one) (P * c) (c * one) S fv pc in
    let x = e.w in
    let m : 2 * x ≤ 65536 * (c * one) + 8 * (grain * c) =
    stay g.sa g.sb g.r e.r (g.A * one) (g.B * one) (g.w * one) (P * c) (D * c) x (c * one) (grain * c)
    (sums_times g.sb g.B (not g.sa) g.A g.r g.w one g.sums) e.sums
    (le_trans (mul-le-mul_right one g.first_in) (le_of_eq (mul_assoc 32768 c one)))
    (le_trans (mul-le-mul_right one g.second_in) (le_of_eq (mul_assoc 32768 c one)))
    (mul-le-mul_right c P-in) (rounded_up g.w c C g.wide) in
    let r : rounded (x * one) (c * one) ≤ 32768 * one = half_up x c C m in
    let z : HasValue (add binary32 f p) e.r (rounded (x * one) (c * one)) one =
    subst (λ (y : Float). HasValue y e.r (rounded (x * one) (c * one)) one) (sym e.is) (round_value e.r x (c * one) (le_trans r (mul-le-mul_right one (lit≤ tt)))) in
    bounded_within {z = add binary32 f p} (record { s = e.r; size = rounded (x * one) (c * one); value = z; within = r })
  where
    part : (D K o : ℕ) → K ≤ o → D * K * o ≤ D * (o * o)
    part D K o h = let a : K * (D * o) ≤ o * (D * o) = mul-le-mul_right (D * o) h in omega arith

-- ---- a coordinate is accepted where it is within 32,768
or_l : (a b : Bool) → T a → T (a || b)
or_l true b t = tt
or_l false b t = absurd t

or_r : (a b : Bool) → T b → T (a || b)
or_r true b t = tt
or_r false b t = t

less_or_same : (a b : ℕ) (y : Bool) → (a ≡ b → T y) → a ≤ b → T (ltb a b || (y && true))
less_or_same a b y f h = elim (eq-or-lt_of_le h) [ inl e ↦ or_r (ltb a b) (y && true) (and_i y true (f e) tt) | inr l ↦ or_l (ltb a b) (y && true) (lt→ltb a b l) ]

plain : (x y : ℕ) → x * 1 ≤ 1 * 32768 * y → x ≤ 32768 * y
plain x y h = omega arith

unplain : (x y : ℕ) → x ≤ 32768 * y → x * 1 ≤ 1 * 32768 * y
unplain x y h = omega arith

some : (x y : ℕ) → 0 < y → 0 < x * 1 + 1 * 32768 * y
some x y h = omega arith

no_less : (a b : ℕ) → T (ltb a b || (eqb b a && true)) → a ≤ b
no_less a b t = go (ltb a b) (eqb b a) (ltb→lt a b) (eqb→eq b a) t
  where
    go : (x y : Bool) → (T x → a < b) → (T y → b ≡ a) → T (x || (y && true)) → a ≤ b
    go true y h k t = le_of_lt (h tt)
    go false true h k t = le_of_eq (sym (k tt))
    go false false h k t = absurd t

pub coordinate : (x : Float) → coordinate_in x ≡ true → Within 32768 x
unfolding coordinate_in neg lt eq le of_bits
coordinate nan e = absurd (false≢true e)
coordinate (inf true) e = absurd (false≢true e)
coordinate (inf false) e = absurd (false≢true e)
coordinate (fin true m d) e = (tt, plain (m * up d) (down d) (no_less (m * up d * 1) (1 * 32768 * down d) (and_l (le (neg (of_bits binary32 0x47000000)) (fin true m d)) (le (fin true m d) (of_bits binary32 0x47000000)) (told _ e))))
coordinate (fin false m d) e = (tt, plain (m * up d) (down d) (no_more (m * up d * 1) (1 * 32768 * down d) (is_true _ (and_r (le (neg (of_bits binary32 0x47000000)) (fin false m d)) (le (fin false m d) (of_bits binary32 0x47000000)) (told _ e)))))

pub accepted : (x : Float) → Within 32768 x → coordinate_in x ≡ true
unfolding coordinate_in neg lt eq le of_bits
accepted nan w = absurd w.0
accepted (inf s) w = absurd w.0
accepted (fin true m d) w =
    let a = m * up d * 1 in
    let b = 1 * 32768 * down d in
    is_true _ (and_i (ltb a b || (eqb b a && true)) (ltb 0 (a + b) || (eqb a b && (false || eqb a 0))) (less_or_same a b (eqb b a) (λ e. eq→eqb (sym e)) (unplain (m * up d) (down d) w.1)) (or_l (ltb 0 (a + b)) (eqb a b && (false || eqb a 0)) (lt→ltb 0 (a + b) (some (m * up d) (down d) (down_pos d)))))
accepted (fin false m d) w =
    let a = m * up d * 1 in
    let b = 1 * 32768 * down d in
    is_true _ (and_i (ltb 0 (b + a) || (eqb b a && (false || eqb b 0))) (ltb a b || (eqb a b && true)) (or_l (ltb 0 (b + a)) (eqb b a && (false || eqb b 0)) (lt→ltb 0 (b + a) (swapped a b (some (m * up d) (down d) (down_pos d))))) (less_or_same a b (eqb a b) (λ e. eq→eqb e) (unplain (m * up d) (down d) w.1)))
  where
    swapped : (a b : ℕ) → 0 < a + b → 0 < b + a
    swapped a b h = omega arith

-- ---- a cut between two accepted points is an accepted point
pub cut_inside : (s : Spot) → Placed s → falls_on s ≡ true → Inside s.from → Inside s.to → Inside (cut_of s)
unfolding cut_of plus_of minus_of times_of
cut_inside s P F f t = record { x = one_way s.from.position.x s.to.position.x f.x t.x; y = one_way s.from.position.y s.to.position.y f.y t.y }
  where
    one_way : (a b : Float) → coordinate_in a ≡ true → coordinate_in b ≡ true → coordinate_in (add binary32 a (mul binary32 (sub binary32 b a) (share s P F))) ≡ true
    one_way a b p q =
        let h = share_in s P F in
        accepted (add binary32 a (mul binary32 (sub binary32 b a) (share s P F))) (inside a b (share s P F) (K s P F) (coordinate a p) (coordinate b q) h.0 h.1)
