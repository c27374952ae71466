-- The offset of an edge is at most 24,576 in a component: the unit direction is at most 3 in a component, the half width at most 8,192. The points are
-- ten grains apart, so that the length is not zero. Assumes nothing.
use mathlib.Core.Path.{◌≡◌}
use mathlib.Core.Logic.{◌⊎◌, inl, inr}
use Prim.Native.Nat.{ℕ, ◌+◌, ◌*◌, ◌≤◌, ◌<◌}
use native.Mathlib.Nat.{le_trans, le_of_eq, le-add_left, le-add_right, lt_of_lt_of_le, mul-le-mul, mul-pos}
use native.Mathlib.Omega.{arith}
use mathlib.Core.Bool.{Bool}
use lib.Dec.{lit<}
use lib.Ieee.{Float, binary32, unlike, neg, sub, mul, div}
use lib.Ieee.Exact.{HasValue}
use lib.Ieee.Positive.{num, den, den_pos}
use Rattle.root.specs.Compute.{root_of}
use Rattle.rounding.proofs.Scales.{one, speck, one_pos, speck_pos}
use Rattle.rounding.proofs.Values.{sign, finite_value, mul_round}
use Rattle.rounding.proofs.Results.{whole, made, Bounded, made_bounded, bounded_neg, Within}
use Rattle.rounding.proofs.Differences.{Gap, distance}
use Rattle.rounding.proofs.Squares.{square_length, squared, length_squared, le_squared, le_length_squared}
use Rattle.rounding.proofs.Roots.{over_length}
use Rattle.far.proofs.Apart.{Apart, apart_distance, distances_value}

abbrev pub Offset : Float → Type 0
Offset o = Bounded o 24576

times : {t : Float} (h : Float) → Bounded t 3 → Within 8192 h → Offset (mul binary32 t h)
times {t} h u p =
    let s = unlike u.s (sign h) in
    let e = mul_round t h u.s (sign h) u.size one (num h) (den h) one_pos (den_pos h) u.value (finite_value h p.0) in
    made_bounded
    (made (mul binary32 t h) s (u.size * num h) (one * den h) 24576 (mul-pos one_pos (den_pos h)) (whole 24576 (lit< tt)) e (le_trans (mul-le-mul u.within p.1) (le_of_eq (regroup one (den h)))))
  where
    regroup : (k d : ℕ) → 3 * k * (8192 * d) ≡ 24576 * (k * d)
    regroup k d = omega arith

module _ {a b c d : Float} (G : Gap 32768 a b) (H : Gap 32768 c d) (far : Apart G ⊎ Apart H) where
  some : 0 < length_squared (distance G) (distance H)
  some =
      let g = distance G in
      let h = distance H in
      let l : 100 * speck ≤ squared g + squared h =
      elim far [
        | inl i ↦ le_trans (le_squared 10 g (lit< tt) (apart_distance G i)) (le-add_right (squared g) (squared h))
        | inr i ↦ le_trans (le_squared 10 h (lit< tt) (apart_distance H i)) (le-add_left (squared h) (squared g))
      ] in
      lt_of_lt_of_le (mul-pos (lit< tt) speck_pos) (le_length_squared g h 100 (lit< tt) l)

  abbrev length : Float
  length = root_of (square_length (sub binary32 b a) (sub binary32 d c))

  direction : (z : Float) (s : Bool) (k : ℕ) → HasValue z s k one → squared k ≤ squared (distance G) + squared (distance H) → Bounded (div binary32 z length) 3
  direction = over_length (sub binary32 b a) (sub binary32 d c) (distance G) (distance H) some (distances_value G H)

  module _ (h : Float) (half : Within 8192 h) where
    pub offset_x : Offset (mul binary32 (neg (div binary32 (sub binary32 d c) length)) h)
    offset_x = times h (bounded_neg (direction (sub binary32 d c) H.r (distance H) H.difference.value (le-add_left (squared (distance H)) (squared (distance G))))) half

    pub offset_y : Offset (mul binary32 (div binary32 (sub binary32 b a) length) h)
    offset_y = times h (direction (sub binary32 b a) G.r (distance G) G.difference.value (le-add_right (squared (distance G)) (squared (distance H)))) half
