-- Document 01: "The root is the nearest f32 to the exact root, stated by comparing whole-number squares, for +0 and every finite positive
-- f32." Laws are in proofs/Laws.antt. Assumes nothing.
use Rattle.std.specs.Prelude.{ℕ, ◌+◌, ◌*◌, ◌/◌, ◌^◌, ◌≤◌, ◌<◌, Bool, false, not, T, Float}
use Rattle.std.specs.Float.{nan, inf, fin, binary32}
use Rattle.std.specs.Float.Ieee.{fits}
use Rattle.std.specs.Float.Ieee.Positive.{num, den}

-- +0 and every finite positive number: those with a root. -0, a negative, an infinity and a NaN have none.
abbrev pub rootable : Float → Bool
rootable nan = false
rootable (inf s) = false
rootable (fin s m e) = not s

-- Every finite f32 is a whole number of units of 2 ^ -149, the least f32 above zero. (Of a negative one these are the units of its size.)
abbrev pub units : Float → ℕ
units x = num x * 2 ^ 149 / den x

-- The square of x's root, counted in squares of a unit: √x is √(square x) units.
abbrev pub square : Float → ℕ
square x = units x * 2 ^ 149

-- r is the f32 nearest to √x: of any other f32 y that is not negative, √x lies on r's side of the middle of r and y. That middle is
-- (units r + units y) / 2 units; both are doubled and squared. The orders are strict: no root stands midway between two f32.
pub record IsRoot (x r : Float) : Type 0 where
  pub held : T (fits binary32 r)
  pub plain : T (rootable r)
  pub above : (y : Float) → T (fits binary32 y) → T (rootable y) → units r < units y → 4 * square x < (units r + units y) * (units r + units y)
  pub below : (y : Float) → T (fits binary32 y) → T (rootable y) → units y < units r → (units r + units y) * (units r + units y) < 4 * square x

-- The relative error is at most 2 ^ -24: (1 - 2 ^ -24) r ≤ √x ≤ (1 + 2 ^ -24) r, times 2 ^ 24 and squared.
pub record Close (x r : Float) : Type 0 where
  pub low : (16777215 * units r) * (16777215 * units r) ≤ 2 ^ 48 * square x
  pub high : 2 ^ 48 * square x ≤ (16777217 * units r) * (16777217 * units r)
