-- Closed examples, computed by the checker over `stroke_of`: one statement over one list. Assumes nothing.
use mathlib.Core.Path.{◌≡◌, refl}
use mathlib.Core.Bool.{Bool, true, ◌&&◌}
use mathlib.Core.List.{List, [], ◌∷◌}
use Prim.Native.Nat.{ℕ, zero, suc}
use lib.Dec.{eqb}
use lib.Ieee.{Float, binary32, mul, lt, eq, le, of_bits, to_bits}
use Rattle.plane.specs.F32.{f32}
use Rattle.dashes.specs.Pattern.{pattern_in, offset_in, lengths_in, length_in}
use Rattle.options.specs.Options.{within, in_range, line_join_of, line_cap_of, prepared_of, stroke_of}
use Rattle.options.specs.declared.Options.{Options}

pub data Case : Type 0 where
  -- the patterns of width and miter limit, join and cap; then the number, and the patterns of half width and clip
  stroke : ℕ → ℕ → ℕ → ℕ → ℕ → ℕ → ℕ → Case
  -- the arc detail, with nothing round; then the number
  detailed : ℕ → ℕ → Case
  -- the pattern of the merge range; then the number, and the pattern of the limit of nearness
  merge : ℕ → ℕ → ℕ → Case
  -- the patterns of the offset and of the dashes' lengths; then the number
  dashed : ℕ → List ℕ → ℕ → Case

floats : List ℕ → List Float
floats [] = []
floats (n ∷ ns) = f32 n ∷ floats ns

times : ℕ → ℕ → List ℕ
times zero n = []
times (suc k) n = n ∷ times k n

abbrev options : ℕ → ℕ → ℕ → ℕ → ℕ → ℕ → Options
options w m j c r k = record { width = f32 w; miter_limit = f32 m; line_join = j; cap = c; merge_range = f32 r; detail = k; offset = f32 0 }

says : Case → Bool
says (stroke w m j c number h clip) =
    let a = stroke_of (options w m j c 0x3c000000 0) [] in
    eqb a.number number && eqb a.place 0 && (eqb (to_bits binary32 a.stroke.half_width) h && eqb (to_bits binary32 a.stroke.clip) clip)
says (detailed k number) = eqb (stroke_of (options 0x40000000 0x40800000 0 0 0x3c000000 k) []).number number
says (merge r number near) =
    let a = stroke_of (options 0x40000000 0x40800000 0 0 r 0) [] in
    eqb a.number number && eqb a.place 0 && eqb (to_bits binary32 a.stroke.near) near
says (dashed offset ns number) =
    let a = stroke_of (record { width = f32 0x40000000; miter_limit = f32 0x40800000; line_join = 0; cap = 0; merge_range = f32 0x3c000000; detail = 0; offset = f32 offset }) (floats ns) in
    eqb a.number number && eqb a.place 0

pub every : List Case → Bool
every [] = true
every (c ∷ cs) = says c && every cs

pub cases : List Case
cases =
    -- width 2 and limit 4, with Butt and with Square
    stroke 0x40000000 0x40800000 0 0 0 0x3f800000 0 ∷ stroke 0x40000000 0x40800000 2 1 0 0x3f800000 0x3f800000
    -- width 1/256 and the f32 below it, 16,384 and the next; a NaN
    ∷ stroke 0x3b800000 0x40800000 0 1 0 0x3b000000 0x3b000000 ∷ stroke 0x3b7fffff 0x40800000 0 1 1 0 0
    ∷ stroke 0x46800000 0x40800000 0 1 0 0x46000000 0x46000000 ∷ stroke 0x46800001 0x40800000 0 1 1 0 0
    ∷ stroke 0x7fc00000 0x40800000 0 1 1 0 0
    -- limit 1 and the f32 below it, 1,024 and the next; a NaN
    ∷ stroke 0x40000000 0x3f800000 1 0 0 0x3f800000 0 ∷ stroke 0x40000000 0x3f7fffff 1 0 1 0 0
    ∷ stroke 0x40000000 0x44800000 1 0 0 0x3f800000 0 ∷ stroke 0x40000000 0x44800001 1 0 1 0 0
    ∷ stroke 0x40000000 0x7fc00000 1 0 1 0 0
    -- Round joins and caps, whose clip is 0; no such join, no such cap
    ∷ stroke 0x40000000 0x40800000 3 2 0 0x3f800000 0 ∷ stroke 0x40000000 0x40800000 4 0 1 0 0 ∷ stroke 0x40000000 0x40800000 0 3 1 0 0
    -- a detail of 6 and of 7
    ∷ detailed 6 0 ∷ detailed 7 1
    -- merge range 1/128, whose square is 2^-14, and the f32 below it, 1/256, 1 and the next; 0.15, whose square is rounded; a NaN
    ∷ merge 0x3c000000 0 0x38800000 ∷ merge 0x3bffffff 1 0 ∷ merge 0x3b800000 1 0 ∷ merge 0x3f800000 0 0x3f800000 ∷ merge 0x3f800001 1 0
    ∷ merge 0x3e19999a 0 0x3cb851ec ∷ merge 0x7fc00000 1 0
    -- an offset of 32,768 and the next; -1 and a NaN, also where there are no dashes; -0
    ∷ dashed 0x47000000 (0x40400000 ∷ []) 0 ∷ dashed 0x47000001 (0x40400000 ∷ []) 1 ∷ dashed 0xbf800000 [] 1 ∷ dashed 0x7fc00000 [] 1 ∷ dashed 0x80000000 [] 0
    -- lengths of 1/4 and the f32 below it, 32,768 and the next, a NaN at the end; 16 lengths and 17
    ∷ dashed 0 (0x3e800000 ∷ 0x47000000 ∷ []) 0 ∷ dashed 0 (0x40400000 ∷ 0x3e7fffff ∷ []) 1 ∷ dashed 0 (0x47000001 ∷ []) 1 ∷ dashed 0 (0x40400000 ∷ 0x7fc00000 ∷ []) 1
    ∷ dashed 0 (times 16 0x40400000) 0 ∷ dashed 0 (times 17 0x40400000) 1 ∷ []

pub worked : every cases ≡ true
unfolding every says cases floats times stroke_of in_range within line_join_of line_cap_of prepared_of pattern_in offset_in lengths_in length_in mul lt eq le of_bits to_bits
worked = refl
