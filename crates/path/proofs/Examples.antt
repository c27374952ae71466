-- Closed examples, computed by the checker over `checked_of`: one statement over one list. Assumes nothing.
use mathlib.Core.Path.{◌≡◌, refl}
use mathlib.Core.Bool.{Bool, true, ◌&&◌}
use mathlib.Core.List.{List, [], ◌∷◌, map}
use Prim.Native.Nat.{ℕ, ◌+◌, ◌≤◌, ◌<◌}
use lib.Dec.{eqb}
use lib.Ieee.{neg, lt, eq, le, of_bits}
use lib.ListN.{length, replicate, length-replicate}
use native.Mathlib.Omega.{arith}
use borrow.Author.Tests.{lt-ltb, le-ltb}
use Rattle.refusals.specs.Numbers.{verdict, too_many_verbs, misplaced_verb}
use Rattle.plane.specs.F32.{f32}
use Rattle.path.specs.Limits.{verb_limit}
use Rattle.path.specs.Verbs.{begin, line, end_open, end_closed, names, named, placed, first_misplaced, ends_inside, point_count}
use Rattle.path.specs.Coordinates.{coordinate_in, first_outside}
use Rattle.path.specs.Path.{malformed, checked_of}

pub data Case : Type 0 where
  -- verbs and the patterns of the coordinates; then the number and the place
  path : List ℕ → List ℕ → ℕ → ℕ → Case

says : Case → Bool
says (path vs cs number place) = let a = checked_of vs (map f32 cs) in eqb a.number number && eqb a.place place

pub every : List Case → Bool
every [] = true
every (c ∷ cs) = says c && every cs

pub cases : List Case
cases =
    -- no verbs; a closed run and an open one
    path [] [] 0 0 ∷ path (begin ∷ line ∷ end_closed ∷ begin ∷ end_open ∷ []) (0 ∷ 0 ∷ 0 ∷ 0 ∷ 0 ∷ 0 ∷ []) 0 0
    -- P7: line first: 3, place 0; begin only: 3, place 1
    ∷ path (line ∷ []) (0 ∷ 0 ∷ []) 3 0 ∷ path (begin ∷ []) (0 ∷ 0 ∷ []) 3 1
    -- an unknown verb, a begin inside a run, an end outside
    ∷ path (begin ∷ 4 ∷ []) (0 ∷ 0 ∷ []) 3 1 ∷ path (begin ∷ begin ∷ end_open ∷ []) (0 ∷ 0 ∷ 0 ∷ 0 ∷ []) 3 1
    ∷ path (begin ∷ end_open ∷ end_open ∷ []) (0 ∷ 0 ∷ []) 3 2
    -- a coordinate is missing, one is left over
    ∷ path (begin ∷ end_open ∷ []) (0 ∷ []) 3 2 ∷ path (begin ∷ end_open ∷ []) (0 ∷ 0 ∷ 0 ∷ []) 3 2
    -- 32,768 and -32,768 pass; the next f32, an infinity and a NaN do not
    ∷ path (begin ∷ end_open ∷ []) (0x47000000 ∷ 0xc7000000 ∷ []) 0 0 ∷ path (begin ∷ end_open ∷ []) (0 ∷ 0x47000001 ∷ []) 4 1
    ∷ path (begin ∷ end_open ∷ []) (0xc7000001 ∷ 0 ∷ []) 4 0 ∷ path (begin ∷ end_open ∷ []) (0xff800000 ∷ 0x7fc00000 ∷ []) 4 0
    ∷ path (begin ∷ line ∷ end_open ∷ []) (0 ∷ 0 ∷ 0 ∷ 0x7fc00000 ∷ []) 4 3
    -- 3 comes before 4
    ∷ path (begin ∷ []) (0x7fc00000 ∷ 0 ∷ []) 3 1 ∷ []

pub worked : every cases ≡ true
unfolding every says cases checked_of malformed names named placed first_misplaced ends_inside point_count coordinate_in first_outside neg lt eq le of_bits
worked = refl

-- More than 65,536 verbs get 2 before their first gets 3. So many are too long a list to compute over.
pub many_lines : (n : ℕ) → verb_limit < n → checked_of (replicate n line) [] ≡ verdict too_many_verbs 0
unfolding checked_of
many_lines n h = rw (length-replicate {A = ℕ} n line, lt-ltb verb_limit n h)

pub lines_alone : (n : ℕ) → 1 + n ≤ verb_limit → checked_of (line ∷ replicate n line) [] ≡ verdict misplaced_verb 0
unfolding checked_of malformed placed first_misplaced
lines_alone n h =
    let m = length (line ∷ replicate n line) in
    let some : 0 < m = omega arith in
    let few : m ≤ verb_limit = omega (arith, length-replicate {A = ℕ} n line) in
    rw (le-ltb verb_limit m few, lt-ltb 0 m some)
