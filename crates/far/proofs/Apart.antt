-- How far two points are apart, in grains. Of the squared distance 256 specks or more are ten grains in a component, since twice ten grains squared are
-- only 200; and two grains in a component are four specks, 2 ^ -20, which is what is left, and far above the 2 ^ -40 that was refused. Assumes nothing.
use mathlib.Core.Path.{◌≡◌, refl, ap}
use mathlib.Core.Logic.{◌⊎◌, inl, inr}
use Prim.Native.Nat.{ℕ, ◌+◌, ◌*◌, ◌^◌, ◌≤◌}
use native.Mathlib.Nat.{le_trans, le_of_lt, le-add_left, le-add_right, lt_of_not-le, mul-le-mul_right}
use native.Mathlib.Decide.{dec_le}
use native.Mathlib.Omega.{arith}
use mathlib.Core.Bool.{false}
use lib.Dec.{lit<, lit≤}
use lib.Ieee.{Float, binary32, sub, lt, of_bits}
use lib.Ieee.Exact.{HasValue}
use Rattle.rounding.proofs.Scales.{one, grain, speck, one_pos, speck_pos, one_grains, rounded_le_grains, le_rounded_grains}
use Rattle.rounding.proofs.Values.{lt_value}
use Rattle.rounding.proofs.Results.{Bounded}
use Rattle.rounding.proofs.Differences.{Gap, distance}
use Rattle.rounding.proofs.Squares.{square_length, squared, length_squared, square_length_value, le_squared, squared_le, le_length_squared, length_squared_le}
use Rattle.far.specs.Short.{so_near, least_left}

-- ---- two coordinates
module _ {a b : Float} (G : Gap 32768 a b) where
  -- ten grains apart
  abbrev pub Apart : Type 0
  Apart = 10 * G.c ≤ 2048 * G.w

  pub apart_distance : Apart → 10 * grain ≤ distance G
  apart_distance h = le_rounded_grains 10 (G.w * one) G.c (lit< tt) G.some (large G.w G.c h)
    where
      large : (w c : ℕ) → 10 * c ≤ 2048 * w → 10 * grain * c ≤ w * one
      large w c h = omega (arith, mul-le-mul_right grain h, ap (λ (z : ℕ). w * z) one_grains)

  close_distance : 2048 * G.w ≤ 10 * G.c → distance G ≤ 10 * grain
  close_distance h = rounded_le_grains 10 (G.w * one) G.c (lit< tt) G.some (small G.w G.c h)
    where
      small : (w c : ℕ) → 2048 * w ≤ 10 * c → w * one ≤ 10 * grain * c
      small w c h = omega (arith, mul-le-mul_right grain h, ap (λ (z : ℕ). w * z) one_grains)

-- ---- two points
module _ {a b c d : Float} (G : Gap 32768 a b) (H : Gap 32768 c d) where
  pub distances_value : HasValue (square_length (sub binary32 b a) (sub binary32 d c)) false (length_squared (distance G) (distance H)) one
  distances_value =
      let x = G.difference in
      let y = H.difference in
      square_length_value 16 (lit≤ tt) (sub binary32 b a) (sub binary32 d c) G.r H.r (distance G) (distance H) x.value x.within y.value y.within

  -- not below a limit of 256 specks or more
  pub not_near_apart : (limit : Float) (n : ℕ) → HasValue limit false n one → 256 * speck ≤ n → lt (square_length (sub binary32 b a) (sub binary32 d c)) limit ≡ false → Apart G ⊎ Apart H
  not_near_apart limit n v l e = go (dec_le (10 * G.c) (2048 * G.w)) (dec_le (10 * H.c) (2048 * H.w))
    where
      long : 256 * speck ≤ length_squared (distance G) (distance H)
      long = le_trans l ((lt_value (square_length (sub binary32 b a) (sub binary32 d c)) limit (length_squared (distance G) (distance H)) n one one_pos distances_value v).0 e)

      clash : (g h : ℕ) → squared g ≤ 100 * speck → squared h ≤ 100 * speck → 256 * speck ≤ length_squared g h → ⊥
      clash g h p q l = never (length_squared g h) (length_squared_le g h 200 (lit< tt) (twice (squared g) (squared h) p q)) l
        where
          twice : (x y : ℕ) → x ≤ 100 * speck → y ≤ 100 * speck → x + y ≤ 200 * speck
          twice x y p q = omega arith

          never : (x : ℕ) → x ≤ 200 * speck → 256 * speck ≤ x → ⊥
          never x p q = omega (arith, speck_pos)

      go : Dec (10 * G.c ≤ 2048 * G.w) → Dec (10 * H.c ≤ 2048 * H.w) → Apart G ⊎ Apart H
      go (yes p) q = inl p
      go (no f) (yes q) = inr q
      go (no f) (no g) =
          absurd
          (clash (distance G) (distance H) (squared_le 10 (distance G) (lit< tt) (close_distance G (le_of_lt (lt_of_not-le f)))) (squared_le 10 (distance H) (lit< tt) (close_distance H (le_of_lt (lt_of_not-le g)))) long)

-- ---- bounds that two grains in a component reach: four specks or less
pub record Reached (x : Float) : Type 0 where
  pub size : ℕ
  pub value : HasValue x false size one
  pub most : size ≤ 4 * speck

pub so_near_reached : Reached so_near
unfolding of_bits one speck
so_near_reached = record { size = 2 ^ 109; value = (refl, refl); most = lit≤ tt }

pub least_left_reached : Reached least_left
unfolding of_bits one speck
least_left_reached = record { size = 2 ^ 129; value = (refl, refl); most = lit≤ tt }

module _ {x y : Float} (X : Bounded x 131072) (Y : Bounded y 131072) where
  pub two_grains : (2 * grain ≤ X.size) ⊎ (2 * grain ≤ Y.size) → (bound : Float) → Reached bound → lt (square_length x y) bound ≡ false
  two_grains l bound b =
      let g = X.size in
      let h = Y.size in
      let four : 4 * speck ≤ squared g + squared h =
      elim l [
        | inl i ↦ le_trans (le_squared 2 g (lit< tt) i) (le-add_right (squared g) (squared h))
        | inr i ↦ le_trans (le_squared 2 h (lit< tt) i) (le-add_left (squared h) (squared g))
      ] in
      (lt_value (square_length x y) bound (length_squared g h) b.size one one_pos
      (square_length_value 17 (lit≤ tt) x y X.s Y.s g h X.value X.within Y.value Y.within) b.value).1
      (le_trans b.most (le_length_squared g h 4 (lit< tt) four))
