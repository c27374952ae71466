-- The fields of a state as words, and back. Assumes nothing.
use Rattle.std.specs.Prelude.{ℕ, Bool, true, false, cond, ltb, eqb, Float, Option, Some, None}
use Rattle.std.specs.Float.{binary32}
use Rattle.std.specs.Float.Ieee.{of_bits}
use Rattle.form.specs.declared.machine.Axis.{Axis}
use Rattle.form.specs.declared.machine.Axis.TheVariants.{X, Y, Alone}
use Rattle.form.specs.declared.machine.Stage.{Stage}
use Rattle.form.specs.declared.machine.Stage.TheVariants.{Start, Closed, Want, Signed, Whole, Pointed, Fraction, Gap, Lost}

abbrev pub stage_word : Stage → ℕ
stage_word Start = 0
stage_word Closed = 1
stage_word Want = 2
stage_word Signed = 3
stage_word Whole = 4
stage_word Pointed = 5
stage_word Fraction = 6
stage_word Gap = 7
stage_word Lost = 8

unfoldable pub stage_at : ℕ → Stage
stage_at n =
    cond (eqb n 0) Start
    (cond (eqb n 1) Closed
    (cond (eqb n 2) Want
    (cond (eqb n 3) Signed
    (cond (eqb n 4) Whole
    (cond (eqb n 5) Pointed
    (cond (eqb n 6) Fraction
    (cond (eqb n 7) Gap
    Lost)))))))

abbrev pub axis_word : Axis → ℕ
axis_word X = 0
axis_word Y = 1
axis_word Alone = 2

unfoldable pub axis_at : ℕ → Axis
axis_at n = cond (eqb n 0) X (cond (eqb n 1) Y Alone)

abbrev pub flag_word : Bool → ℕ
flag_word true = 1
flag_word false = 0

abbrev pub flag_at : ℕ → Bool
flag_at n = eqb n 1

-- a number that has fewer bits than a word
abbrev pub below : ℕ → ℕ → ℕ
below most n = cond (ltb n most) n 0

-- a float's word is its bits, `to_bits`
abbrev pub float_at : ℕ → Float
float_at n = of_bits binary32 (below 4294967296 n)

abbrev pub found_word : Option ℕ → ℕ
found_word None = 0
found_word (Some i) = 1

abbrev pub found_place : Option ℕ → ℕ
found_place None = 0
found_place (Some i) = i

abbrev pub found_at : ℕ → ℕ → Option ℕ
found_at n i = cond (eqb n 1) (Some i) None
