-- W-209: "Before its centre is added, each arc vertex has length h within one part in a million, stated as the root is, by comparing whole-number squares." `ArcsLong` is this sentence of
-- the mesh call's own vertex list after the call; that it holds is proofs/Reach.antt. Assumes nothing.
use Rattle.std.specs.Prelude.{◌≡◌, ℕ, ◌+◌, ◌*◌, ◌^◌, ◌≤◌, ◌<◌, Bool, false, List, [], ◌∷◌, Float}
use Rattle.std.specs.Float.Ieee.Exact.{HasValue}
use Rattle.refusals.specs.Numbers.{number_of, accepted}
use Rattle.plane.specs.F32.{◌⊕◌, ◌⊗◌}
use Rattle.plane.specs.declared.vector.Point.{Point}
use Rattle.endpoint.specs.declared.Endpoint.{Endpoint}
use Rattle.options.specs.Options.{stroke_of}
use Rattle.options.specs.declared.Options.{Options}
use Rattle.options.specs.declared.Stroke.{Stroke}
use Rattle.path.specs.Runs.{Run}
use Rattle.pieces.specs.Piece.{Lists}
use Rattle.run.specs.Run.{shape_count}
use Rattle.runs.specs.Runs.{path_runs, drawn_of}
use Rattle.mesh.specs.Mesh.{Outcome, outcome_of}
use Rattle.reach.specs.Reach.{float_at, base_count}

-- (a, b) "has length h within one part in a million": in units of 2 ^ -149
pub record HalfWidthLong (h a b : Float) : Type 0 where
  pub half : ℕ
  pub half_is : HasValue h false half (2 ^ 149)
  pub a_down : Bool
  pub a_units : ℕ
  pub a_is : HasValue a a_down a_units (2 ^ 149)
  pub b_down : Bool
  pub b_units : ℕ
  pub b_is : HasValue b b_down b_units (2 ^ 149)
  pub least : 999999 * half * (999999 * half) ≤ 1000000000000 * (a_units * a_units + b_units * b_units)
  pub most : 1000000000000 * (a_units * a_units + b_units * b_units) ≤ 1000001 * half * (1000001 * half)

-- "Before its centre is added": the place (x, y) is a centre plus the normal (m, n) times h
pub record AboutCentre (h x y m n : Float) : Type 0 where
  pub centre : Point
  pub x_is : x ≡ centre.x ⊕ m ⊗ h
  pub y_is : y ≡ centre.y ⊕ n ⊗ h
  pub long : HalfWidthLong h (m ⊗ h) (n ⊗ h)

-- run by run, cut or not, of the vertices that stand behind a run's own
abbrev pub AllLong : Outcome → Stroke → ℕ → List (Run Endpoint) → Type 0
AllLong out o base [] = Unit {0}
AllLong out o base (r ∷ rs) =
    let s = drawn_of o r in
    ((i : ℕ) → base_count s ≤ i → i < shape_count s → let j = base + i in AboutCentre o.half_width (float_at out j 0) (float_at out j 1) (float_at out j 2) (float_at out j 3))
    × AllLong out o (base + shape_count s) rs

-- whatever is lent, and whatever lengths the dashes have, where the call answers 0
abbrev pub ArcsLong : Type 0
ArcsLong =
    (verbs : List ℕ) (coords : List Float) (options : Options) (ds : List Float) (l : Lists) → let out = outcome_of verbs coords options ds l in
    let o = (stroke_of options ds).stroke in
    out.answer.number ≡ number_of accepted → AllLong out o 0 (path_runs o ds verbs coords)
