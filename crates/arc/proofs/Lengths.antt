-- "Before its centre is added, each arc vertex has length h within one part in a million": of a unit vector times h, by comparing whole-number squares.
-- Each of the arc's normals is a fresh normalization or ahead, so it is a unit vector whatever the ends are. Assumes nothing.
use mathlib.Core.Path.{◌≡◌, refl}
use mathlib.Core.List.{List, [], ◌∷◌, ◌++◌}
use Prim.Native.Nat.{ℕ, zero, suc, ◌+◌, ◌*◌, ◌^◌, ◌≤◌, ◌<◌}
use native.Mathlib.Nat.{le_trans, le_of_eq, mul-le-mul, mul-le-mul_right, le_of_mul-le-mul_right, mul-pos}
use native.Mathlib.Omega.{arith}
use mathlib.Core.Bool.{Bool, true, false}
use lib.Dec.{lit<, lit≤}
use lib.Ieee.{Float, binary32, unlike, add, lt}
use lib.Ieee.Exact.{HasValue}
use Rattle.plane.specs.Normal.{epsilon, pick}
use Rattle.plane.specs.Vector.{plus_of, times_of, square_length_of, normalize_of}
use Rattle.plane.specs.declared.vector.Point.{Point}
use Rattle.rounding.proofs.Scales.{one, one_pos}
use Rattle.rounding.proofs.Results.{whole, power, Bounded}
use Rattle.units.proofs.Relative.{Rel}
use Rattle.units.proofs.Operations.{product, added}
use Rattle.units.proofs.Lengths.{Unity}
use Rattle.units.proofs.Vectors.{Components, UnitVector, short_x, short_y, unit_unless}
use Rattle.arc.specs.Arc.{middle_of, arc_normals}

-- ---- the normals of an arc, whose ends may be of any length below 2 ^ 27
pub record Direction (v : Point) : Type 0 where
  pub x : Bounded v.x (2 ^ 27)
  pub y : Bounded v.y (2 ^ 27)

pub unit_direction : (v : Point) → UnitVector v → Direction v
unit_direction v U = record {
  x = record { s = U.at.s; size = U.at.x; value = U.at.x_is; within = le_trans (short_x U.at.x U.at.y one U.unity) (mul-le-mul_right one (lit≤ tt)) };
  y = record { s = U.at.t; size = U.at.y; value = U.at.y_is; within = le_trans (short_y U.at.x U.at.y one U.unity) (mul-le-mul_right one (lit≤ tt)) };
}

sum_bounded : (x y : Float) → Bounded x (2 ^ 27) → Bounded y (2 ^ 27) → Bounded (add binary32 x y) (2 ^ 28)
sum_bounded x y I J =
    let T = added x y I.s J.s I.size J.size (2 ^ 28) (power 28 (lit≤ tt)) I.value J.value (twice I.size J.size one I.within J.within) in
    record { s = T.r; size = T.close.m; value = T.close.value; within = T.close.within }
  where
    twice : (a b u : ℕ) → a ≤ 2 ^ 27 * u → b ≤ 2 ^ 27 * u → a + b ≤ 2 ^ 28 * u
    twice a b u h k = omega arith

pub middle_unit : (ahead a b : Point) → UnitVector ahead → Direction a → Direction b → UnitVector (middle_of ahead a b)
unfolding middle_of plus_of
middle_unit ahead a b t A B = go (lt (square_length_of (plus_of a b)) epsilon) refl
  where
    go : (s : Bool) → lt (square_length_of (plus_of a b)) epsilon ≡ s → UnitVector (pick s ahead (normalize_of (plus_of a b)))
    go true e = t
    go false e =
        let X = sum_bounded a.x b.x A.x B.x in
        let Y = sum_bounded a.y b.y A.y B.y in
        unit_unless (plus_of a b) (record { s = X.s; x = X.size; x_is = X.value; t = Y.s; y = Y.size; y_is = Y.value })
        (record { x_in = le_trans X.within (mul-le-mul_right one (lit≤ tt)); y_in = le_trans Y.within (mul-le-mul_right one (lit≤ tt)) })
        e

abbrev pub AllUnit : List Point → Type 0
AllUnit [] = Unit {0}
AllUnit (m ∷ ms) = UnitVector m × AllUnit ms

unit_append : (xs ys : List Point) → AllUnit xs → AllUnit ys → AllUnit (xs ++ ys)
unit_append [] ys h k = k
unit_append (x ∷ xs) ys h k = (h.0, unit_append xs ys h.1 k)

pub arc_unit : (k : ℕ) (ahead a b : Point) → UnitVector ahead → Direction a → Direction b → AllUnit (arc_normals k ahead a b)
unfolding arc_normals
arc_unit zero ahead a b t A B = tt
arc_unit (suc k) ahead a b t A B =
    let m = middle_of ahead a b in
    let M = middle_unit ahead a b t A B in
    (M, unit_append (arc_normals k ahead a m) (arc_normals k ahead m b) (arc_unit k ahead a m t A (unit_direction m M)) (arc_unit k ahead m b t (unit_direction m M) B))

-- ---- over any whole numbers: p, q, v, w are the squares of the vertex, the normal, the unit and h
-- (d stands for a numeral: omega stops at 38 digits)
parts_high : (p w d : ℕ) → 16777216 * d ≤ w → 17592186044416 * p ≤ 17592205967363 * w + 17592186044416 * d → 16777216 * p ≤ 16777237 * w
parts_high p w d W h = omega arith

parts_low : (p w d : ℕ) → 16777216 * d ≤ w → 17592167170050 * w ≤ 17592186044416 * p + 17592186044416 * d → 16777195 * w ≤ 16777216 * p
parts_low p w d W h = omega arith

millionth_high : (p w : ℕ) → 16777216 * p ≤ 16777237 * w → 1000000000000 * p ≤ 1000002000001 * w
millionth_high p w h = omega arith

millionth_low : (p w : ℕ) → 16777195 * w ≤ 16777216 * p → 999998000001 * w ≤ 1000000000000 * p
millionth_low p w h = omega arith

end_high : (p q v w d : ℕ) → 0 < v → 16777216 * d ≤ w → 16777216 * (p * v) ≤ 16777219 * (q * w) + 16777216 * (d * v) → 1048576 * q ≤ 1048577 * v → 1000000000000 * p ≤ 1000002000001 * w
end_high p q v w d P W h k =
    let a : 1048576 * q * w ≤ 1048577 * v * w = mul-le-mul_right w k in
    let b : 17592186044416 * p * v ≤ (17592205967363 * w + 17592186044416 * d) * v = omega (arith, a, h) in
    millionth_high p w (parts_high p w d W (le_of_mul-le-mul_right b P))

end_low : (p q v w d : ℕ) → 0 < v → 16777216 * d ≤ w → 16777214 * (q * w) ≤ 16777216 * (p * v) + 16777216 * (d * v) → 1048575 * v ≤ 1048576 * q → 999998000001 * w ≤ 1000000000000 * p
end_low p q v w d P W h k =
    let a : 1048575 * v * w ≤ 1048576 * q * w = mul-le-mul_right w k in
    let b : 17592167170050 * w * v ≤ (17592186044416 * p + 17592186044416 * d) * v = omega (arith, a, h) in
    millionth_low p w (parts_low p w d W (le_of_mul-le-mul_right b P))

module _ (g h x y u k : ℕ) where
  gather : 16777216 * (x * u * (x * u)) ≤ 16777219 * (g * k * (g * k)) + 16777216 * (70368744177664 * (u * u))
      → 16777216 * (y * u * (y * u)) ≤ 16777219 * (h * k * (h * k)) + 16777216 * (70368744177664 * (u * u))
      → 16777216 * ((x * x + y * y) * (u * u)) ≤ 16777219 * ((g * g + h * h) * (k * k)) + 16777216 * (140737488355328 * (u * u))
  gather i j = omega (arith, i, j)

  collect : 16777214 * (g * k * (g * k)) ≤ 16777216 * (x * u * (x * u)) + 16777216 * (70368744177664 * (u * u))
      → 16777214 * (h * k * (h * k)) ≤ 16777216 * (y * u * (y * u)) + 16777216 * (70368744177664 * (u * u))
      → 16777214 * ((g * g + h * h) * (k * k)) ≤ 16777216 * ((x * x + y * y) * (u * u)) + 16777216 * (140737488355328 * (u * u))
  collect i j = omega (arith, i, j)

-- (x, y) has length h, within one part in a million
pub record Within (x y h : ℕ) : Type 0 where
  pub low : 999999 * h * (999999 * h) ≤ 1000000000000 * (x * x + y * y)
  pub high : 1000000000000 * (x * x + y * y) ≤ 1000001 * h * (1000001 * h)

within : (g h x y u k : ℕ) → 0 < u → 16777216 * 140737488355328 ≤ k * k → Unity g h u → Rel x u (g * k) → Rel y u (h * k) → Within x y k
within g h x y u k P W L X Y = record {
  low = le_trans (le_of_eq (lower k)) (end_low (x * x + y * y) (g * g + h * h) (u * u) (k * k) 140737488355328 (mul-pos P P) W (collect g h x y u k X.square_low Y.square_low) L.low);
  high = le_trans (end_high (x * x + y * y) (g * g + h * h) (u * u) (k * k) 140737488355328 (mul-pos P P) W (gather g h x y u k X.square_high Y.square_high) L.high) (le_of_eq (upper k));
}
  where
    lower : (k : ℕ) → 999999 * k * (999999 * k) ≡ 999998000001 * (k * k)
    lower k = omega arith

    upper : (k : ℕ) → 1000002000001 * (k * k) ≡ 1000001 * k * (1000001 * k)
    upper k = omega arith

-- ---- the vertex
one_wider : 1267650600228229401496703205376 ≤ one * one
unfolding one
one_wider = lit≤ tt

wide : (u h : ℕ) → 1267650600228229401496703205376 ≤ u * u → u ≤ 512 * h → 16777216 * 140737488355328 ≤ h * h
wide u h W l = omega (arith, mul-le-mul l l)

fits : (x h u : ℕ) → x ≤ 2 * u → h ≤ 8192 * u → x * h ≤ 16384 * (u * u)
fits x h u l k = omega (arith, mul-le-mul l k)

pub record Vertex (p : Point) (h : ℕ) : Type 0 where
  pub at : Components p
  pub within : Within at.x at.y h

-- m is a unit vector, h is H units, from 1 / 512 to 8,192
pub vertex : (m : Point) (h : Float) (H : ℕ) → UnitVector m → HasValue h false H one → one ≤ 512 * H → H ≤ 8192 * one → Vertex (times_of m h) H
unfolding times_of
vertex m h H M v low high =
    let c = M.at in
    let L = M.unity in
    let X = product m.x h c.s false c.x H 16384 (whole 16384 (lit< tt)) c.x_is v (fits c.x H one (short_x c.x c.y one L) high) in
    let Y = product m.y h c.t false c.y H 16384 (whole 16384 (lit< tt)) c.y_is v (fits c.y H one (short_y c.x c.y one L) high) in
    record {
      at = record { s = unlike c.s false; x = X.m; x_is = X.value; t = unlike c.t false; y = Y.m; y_is = Y.value };
      within = within c.x c.y X.m Y.m one H one_pos (wide one H one_wider low) L X.rel Y.rel;
    }
