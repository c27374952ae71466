-- Why a stripe's reach is bounded: not by the miter limit, but by the join's normal itself. Of two edges that turn back so far that the squared length of their directions' sum is below the
-- threshold the normal is zero; of all others it is at most 223 in a component. Assumes nothing.
use Rattle.std.specs.Prelude.{◌≡◌, ℕ, ◌+◌, ◌*◌, ◌^◌, ◌≤◌, Bool, false, Float}
use Rattle.std.specs.Float.Ieee.{lt}
use Rattle.std.specs.Float.Ieee.Exact.{HasValue}
use Rattle.plane.specs.F32.{f32}
use Rattle.plane.specs.Vector.{plus_of, divided_of, turned_of, dot_of, square_length_of, normalize_of}
use Rattle.plane.specs.declared.vector.Point.{Point}
use Rattle.reach.specs.Reach.{AtMost}

-- 1e-4
abbrev pub threshold : Float
threshold = f32 0x38d1b717

-- as long as a normalized vector is, in units of 2 ^ -149: one, but for a part in 2 ^ 20 of its square
pub record OneLong (v : Point) : Type 0 where
  pub x_down : Bool
  pub x : ℕ
  pub x_is : HasValue v.x x_down x (2 ^ 149)
  pub y_down : Bool
  pub y : ℕ
  pub y_is : HasValue v.y y_down y (2 ^ 149)
  pub most : 1048576 * (x * x + y * y) ≤ 1048577 * (2 ^ 149 * 2 ^ 149)
  pub least : 1048575 * (2 ^ 149 * 2 ^ 149) ≤ 1048576 * (x * x + y * y)

-- `compute_normal`'s quotient: the sum's direction, a quarter turned, over its part along the first edge's own normal
abbrev pub quotient_of : Point → Point → Point
quotient_of v1 v2 = let n = turned_of (normalize_of (plus_of v1 v2)) in divided_of n (dot_of n (turned_of v1))

abbrev pub PastThreshold : Type 0
PastThreshold =
    (v1 v2 : Point) → OneLong v1 → OneLong v2 → lt (square_length_of (plus_of v1 v2)) threshold ≡ false → AtMost 223 (quotient_of v1 v2).x × AtMost 223 (quotient_of v1 v2).y
