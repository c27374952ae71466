-- Unit vectors: the squares of a normalized vector's components add up to one, within a part in 2 ^ 20, of every vector that is no shorter than 2 ^ -62;
-- so of every one whose squared length is not below 1e-4. Assumes nothing.
use mathlib.Core.Path.{◌≡◌, refl}
use Prim.Native.Nat.{ℕ, zero, suc, ◌+◌, ◌*◌, ◌^◌, ◌≤◌, ◌<◌}
use native.Mathlib.Nat.{le_trans, le_of_eq, lt_of_lt_of_le, lt_of_not-le, mul_assoc, mul-le-mul, mul-le-mul_right, mul-pos}
use native.Mathlib.Decide.{dec_le}
use native.Mathlib.Omega.{arith}
use mathlib.Core.Bool.{Bool, false, not}
use lib.Dec.{lit<, lit≤}
use lib.Ieee.{binary32, mul, lt, of_bits}
use lib.Ieee.Fits.{add-fits}
use lib.Ieee.Exact.{HasValue}
use Rattle.plane.specs.Vector.{divided_of, negated_of, turned_of, square_length_of, length_of, normalize_of}
use Rattle.plane.specs.Normal.{epsilon}
use Rattle.plane.specs.declared.vector.Point.{Point}
use Rattle.rounding.proofs.Scales.{one, one_pos}
use Rattle.rounding.proofs.Values.{negated_value, lt_value}
use Rattle.rounding.proofs.Results.{whole, power}
use Rattle.rounding.proofs.Roots.{root_value}
use Rattle.units.proofs.Relative.{Rel}
use Rattle.units.proofs.Operations.{Close, square, over, plain_sum}
use Rattle.units.proofs.Lengths.{Long, long, not_longer, Unity, unity, swapped}

pub one_wide : 37778931862957161709568 ≤ one * one
unfolding one
one_wide = lit≤ tt

pub one_large : 281474976710656 ≤ one
unfolding one
one_large = lit≤ tt

-- the components of v are ±x and ±y units
pub record Components (v : Point) : Type 0 where
  pub s : Bool
  pub x : ℕ
  pub x_is : HasValue v.x s x one
  pub t : Bool
  pub y : ℕ
  pub y_is : HasValue v.y t y one

pub record UnitVector (v : Point) : Type 0 where
  pub at : Components v
  pub unity : Unity at.x at.y one

-- ---- a vector's squared length
-- at most 2 ^ 30 in a component
pub record Within (v : Point) (c : Components v) : Type 0 where
  pub x_in : c.x ≤ 1073741824 * one
  pub y_in : c.y ≤ 1073741824 * one

-- l units, of the two squares a and b
pub record Squared (v : Point) (c : Components v) : Type 0 where
  pub a : ℕ
  pub b : ℕ
  pub l : ℕ
  pub first : Rel a one (c.x * c.x)
  pub second : Rel b one (c.y * c.y)
  pub both : Rel l 1 (a + b)
  pub l_is : HasValue (square_length_of v) false l one

bound : (g k : ℕ) → g ≤ 1073741824 * k → g * g ≤ 2 ^ 60 * (k * k)
bound g k h = omega (arith, mul-le-mul h h)

sum : (a b k : ℕ) → a ≤ 2 ^ 60 * k → b ≤ 2 ^ 60 * k → a + b ≤ 2 ^ 61 * k
sum a b k h g = omega arith

pub squared : (v : Point) (c : Components v) → Within v c → Squared v c
unfolding square_length_of
squared v c w =
    let a = square v.x c.s c.x (2 ^ 60) (power 60 (lit≤ tt)) c.x_is (bound c.x one w.x_in) in
    let b = square v.y c.t c.y (2 ^ 60) (power 60 (lit≤ tt)) c.y_is (bound c.y one w.y_in) in
    let l = plain_sum (mul binary32 v.x v.x) (mul binary32 v.y v.y) a.m b.m (2 ^ 61) (power 61 (lit≤ tt)) a.value b.value (sum a.m b.m one a.within b.within) in
    record { a = a.m; b = b.m; l = l.m; first = a.rel; second = b.rel; both = l.rel; l_is = l.value }

-- ---- and its length, where it is not shorter than 2 ^ -62.5
pub record Sized (v : Point) : Type 0 where
  pub at : Components v
  pub within : Within v at
  pub some : 16777216 * one ≤ at.x * at.x + at.y * at.y

-- r units
pub record Length (v : Point) (c : Components v) : Type 0 where
  pub r : ℕ
  pub r_is : HasValue (length_of v) false r one
  pub near : Long (c.x * c.x + c.y * c.y) (r * r)

pub measured : (v : Point) (S : Sized v) → Length v S.at
unfolding square_length_of length_of
measured v S =
    let c = S.at in
    let q = squared v c S.within in
    let r = root_value (square_length_of v) q.l (add-fits binary32 (mul binary32 v.x v.x) (mul binary32 v.y v.y)) q.l_is in
    record { r = r.r; r_is = r.value; near = long c.x c.y q.a q.b q.l r.r one S.some q.first q.second q.both r.high r.low }

-- ---- a component is no longer than twice the length
pub twice : (g s r : ℕ) → g * g ≤ s → Long s (r * r) → g ≤ 2 * r
twice g s r h L = go (dec_le g (2 * r))
  where
    clash : (q : ℕ) → 2 * r + 1 ≤ g → 16777208 * s ≤ 16777216 * (r * r) → ⊥
    clash q k l = omega (arith, mul-le-mul k k)

    go : Dec (g ≤ 2 * r) → g ≤ 2 * r
    go (yes k) = k
    go (no f) = absurd (clash 0 (next (lt_of_not-le f)) L.low)
      where
        next : 2 * r < g → 2 * r + 1 ≤ g
        next k = omega arith

positive : (s r : ℕ) → 0 < s → Long s (r * r) → 0 < r
positive s zero S L = absurd (clash L.low)
  where
    clash : 16777208 * s ≤ 16777216 * (0 * 0) → ⊥
    clash l = omega arith
positive s (suc r) S L = omega arith

-- ---- normalizing
pub record Normalized (v : Point) (c : Components v) : Type 0 where
  pub length : Length v c
  pub some : 0 < length.r
  pub x : Close (normalize_of v).x c.s length.r (c.x * one) 2
  pub y : Close (normalize_of v).y c.t length.r (c.y * one) 2

pub normalized : (v : Point) (S : Sized v) → Normalized v S.at
unfolding normalize_of divided_of
normalized v S =
    let c = S.at in
    let L = measured v S in
    let R : 0 < L.r = positive (c.x * c.x + c.y * c.y) L.r (lt_of_lt_of_le (mul-pos (lit< tt) one_pos) S.some) L.near in
    record {
      length = L;
      some = R;
      x = over v.x (length_of v) c.s c.x L.r 2 (whole 2 (lit< tt)) c.x_is L.r_is R (twice c.x (c.x * c.x + c.y * c.y) L.r (left (c.x * c.x) (c.y * c.y)) L.near);
      y = over v.y (length_of v) c.t c.y L.r 2 (whole 2 (lit< tt)) c.y_is L.r_is R (twice c.y (c.x * c.x + c.y * c.y) L.r (right (c.x * c.x) (c.y * c.y)) L.near);
    }
  where
    left : (a b : ℕ) → a ≤ a + b
    left a b = omega arith

    right : (a b : ℕ) → b ≤ a + b
    right a b = omega arith

pub unity_of : (v : Point) (c : Components v) (N : Normalized v c) → Unity N.x.m N.y.m one
unity_of v c N = unity c.x c.y N.length.r N.x.m N.y.m one N.some one_wide N.length.near N.x.rel N.y.rel

pub unit : (v : Point) (c : Components v) → Normalized v c → UnitVector (normalize_of v)
unit v c N = record {
  at = record { s = c.s; x = N.x.m; x_is = N.x.value; t = c.t; y = N.y.m; y_is = N.y.value };
  unity = unity_of v c N;
}

-- ---- a quarter turn
pub turned : (v : Point) → UnitVector v → UnitVector (turned_of v)
unfolding turned_of
turned v N = record {
  at = record { s = not N.at.t; x = N.at.y; x_is = negated_value v.y N.at.t N.at.y one N.at.y_is; t = N.at.s; y = N.at.x; y_is = N.at.x_is };
  unity = swapped N.at.x N.at.y one N.unity;
}

-- the opposite direction
pub reversed : (v : Point) → UnitVector v → UnitVector (negated_of v)
unfolding negated_of
reversed v U = record {
  at = record {
    s = not U.at.s;
    x = U.at.x;
    x_is = negated_value v.x U.at.s U.at.x one U.at.x_is;
    t = not U.at.t;
    y = U.at.y;
    y_is = negated_value v.y U.at.t U.at.y one U.at.y_is;
  };
  unity = U.unity;
}

-- ---- a component of a unit vector is less than twice the unit
pub short_x : (x y u : ℕ) → Unity x y u → x ≤ 2 * u
short_x x y u L = go (dec_le x (2 * u))
  where
    clash : 2 * u + 1 ≤ x → 1048576 * (x * x + y * y) ≤ 1048577 * (u * u) → ⊥
    clash k l = omega (arith, mul-le-mul k k)

    next : 2 * u < x → 2 * u + 1 ≤ x
    next k = omega arith

    go : Dec (x ≤ 2 * u) → x ≤ 2 * u
    go (yes k) = k
    go (no f) = absurd (clash (next (lt_of_not-le f)) L.high)

pub short_y : (x y u : ℕ) → Unity x y u → y ≤ 2 * u
short_y x y u L = short_x y x u (swapped x y u L)

-- ---- 1e-4, in units
unfoldable pub least : ℕ
least = 13743895 * 2 ^ 112

pub epsilon_is : HasValue epsilon false least one
unfolding of_bits one least
epsilon_is = (refl, refl)

least_high : one ≤ 10001 * least
unfolding one least
least_high = lit≤ tt

pub least_low : 10000 * least ≤ one
unfolding one least
least_low = lit≤ tt

-- ---- not short: least ≤ l
reach : (s l k u : ℕ) → 281474976710656 ≤ u → u ≤ 10001 * k → k ≤ l → 16777216 * (l * u) ≤ 16777219 * s + 33554432 * u → u * u ≤ 10002 * s
reach s l k u U h g n =
    let a : u * u ≤ 10001 * l * u = mul-le-mul_right u (le_trans h (times k l g)) in
    let b : 4294967296 * u ≤ u * u = mul-le-mul_right u (le_trans (lit≤ tt) U) in
    at (u * u) (l * u) u s (le_trans a (le_of_eq (mul_assoc 10001 l u))) b n
  where
    at : (v w u s : ℕ) → v ≤ 10001 * w → 4294967296 * u ≤ v → 16777216 * w ≤ 16777219 * s + 33554432 * u → v ≤ 10002 * s
    at v w u s h k n = omega arith

    times : (k l : ℕ) → k ≤ l → 10001 * k ≤ 10001 * l
    times k l h = omega arith

pub some_of : (s u : ℕ) → 281474976710656 ≤ u → u * u ≤ 10002 * s → 16777216 * u ≤ s
some_of s u U h = let b : 281474976710656 * u ≤ u * u = mul-le-mul_right u U in omega (arith, b, h)

module _ (v : Point) (c : Components v) (w : Within v c) (e : lt (square_length_of v) epsilon ≡ false) where
  pub long_enough : one * one ≤ 10002 * (c.x * c.x + c.y * c.y)
  long_enough =
      let Q = squared v c w in
      reach (c.x * c.x + c.y * c.y) Q.l least one one_large least_high ((lt_value (square_length_of v) epsilon Q.l least one one_pos Q.l_is epsilon_is).0 e)
      (not_longer c.x c.y Q.a Q.b Q.l one Q.first Q.second Q.both)

  -- so its normalized vector is one
  pub unit_unless : UnitVector (normalize_of v)
  unit_unless = unit v c (normalized v (record { at = c; within = w; some = some_of (c.x * c.x + c.y * c.y) one one_large long_enough }))
