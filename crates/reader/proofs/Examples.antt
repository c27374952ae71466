-- Closed examples, computed by the checker over the bytes of a text: one statement over one list. Assumes nothing.
use Prim.Native.Char.{code}
use Prim.Native.Nat.{ℕ, ◌-◌}
use Prim.Native.String.{String, [] as none, ◌∷◌ as ◌then◌}
use mathlib.Core.Path.{◌≡◌, refl}
use mathlib.Core.Bool.{Bool, true, false, ◌&&◌}
use mathlib.Core.List.{List, [], ◌∷◌, ◌++◌, map}
use lib.Dec.{eqb}
use lib.Ieee.{binary32, of_bits, to_bits, round, add, lt, neg}
use lib.ListN.{length, replicate}
use Rattle.form.specs.Bytes.{class_of}
use Rattle.lists.specs.Over.{over, put_at}
use Rattle.reader.specs.Outcome.{Outcome}
use Rattle.reader.specs.Pass.{stepped}
use Rattle.reader.specs.Read.{through_of, outcome_of}

bytes : String → List ℕ
bytes none = []
bytes (c then s) = code c ∷ bytes s

same : List ℕ → List ℕ → Bool
same [] [] = true
same [] (y ∷ ys) = false
same (x ∷ xs) [] = false
same (x ∷ xs) (y ∷ ys) = eqb x y && same xs ys

-- A text, and how many verbs and coordinates there is room for. Then what it reads as, verbs and the patterns of the coordinates; or the number and
-- the place of its refusal.
pub data Case : Type 0 where
  reads : String → ℕ → ℕ → List ℕ → List ℕ → Case
  refuses : String → ℕ → ℕ → ℕ → ℕ → Case

-- lists of nines and of ones are lent
abbrev lent : String → ℕ → ℕ → Outcome
lent text n m = outcome_of (bytes text) (replicate n 9) (replicate m (of_bits binary32 0x3f800000))

-- the answer, and both lists whole
leaves : Outcome → ℕ → ℕ → ℕ → ℕ → List ℕ → List ℕ → Bool
leaves o number place n m vs cs =
    let a = o.answer in
    eqb a.number number && eqb a.place place && eqb a.verbs n && eqb a.coords m && same o.verbs vs && same (map (to_bits binary32) o.coords) cs

says : Case → Bool
says (reads text n m vs cs) = leaves (lent text n m) 0 0 (length vs) (length cs) (vs ++ replicate (n - length vs) 9) (cs ++ replicate (m - length cs) 0x3f800000)
says (refuses text n m number place) = leaves (lent text n m) number place 0 0 (replicate n 9) (replicate m 0x3f800000)

pub every : List Case → Bool
every [] = true
every (c ∷ cs) = says c && every cs

pub cases : List Case
cases =
    reads "M0 1L2 1" 4 6 (0 ∷ 1 ∷ 2 ∷ []) (0 ∷ 0x3f800000 ∷ 0x40000000 ∷ 0x3f800000 ∷ [])
    -- empty, but for white space
    ∷ reads "" 0 0 [] [] ∷ reads " " 1 1 [] []
    -- numbers of any length, joined by their signs; -0 reads as +0; the largest
    ∷ reads "M000000000000000000001 1" 2 2 (0 ∷ 2 ∷ []) (0x3f800000 ∷ 0x3f800000 ∷ [])
    ∷ reads "M-0+2-1,-2" 3 4 (0 ∷ 1 ∷ 2 ∷ []) (0 ∷ 0x40000000 ∷ 0xbf800000 ∷ 0xc0000000 ∷ [])
    ∷ reads "M32768 -32768" 2 2 (0 ∷ 2 ∷ []) (0x47000000 ∷ 0xc7000000 ∷ [])
    -- Z after Z, and L after Z
    ∷ reads "M1 0 2 0zZL0 2" 9 9 (0 ∷ 1 ∷ 3 ∷ 0 ∷ 1 ∷ 2 ∷ []) (0x3f800000 ∷ 0 ∷ 0x40000000 ∷ 0 ∷ 0x3f800000 ∷ 0 ∷ 0 ∷ 0x40000000 ∷ [])
    -- M ends a run open
    ∷ reads "M0 0M0 0" 4 4 (0 ∷ 2 ∷ 0 ∷ 2 ∷ []) (0 ∷ 0 ∷ 0 ∷ 0 ∷ [])
    -- out of form: no M, a comma before a command, two commas, the length; and a large number before it
    ∷ refuses "L0 0" 9 9 9 0 ∷ refuses "M0 0 ,L1 1" 9 9 9 6 ∷ refuses "M0,,0" 9 9 9 3 ∷ refuses "M0 0L" 9 9 9 5 ∷ refuses "M1+" 9 9 9 3 ∷ refuses "M99999 x" 9 9 9 7
    -- too large, at the sign and at the first digit
    ∷ refuses "M0 0L-32769 99999" 9 9 10 5 ∷ refuses "M0 0,0 032769" 9 9 10 7
    -- W-204: a point wants a digit behind it, and at most six; two points are two numbers
    ∷ refuses "M1. 2" 9 9 9 3 ∷ reads "M0.6.5" 2 2 (0 ∷ 2 ∷ []) (0x3f19999a ∷ 0x3f000000 ∷ []) ∷ refuses "M6.5" 9 9 9 4 ∷ refuses "M0.1234567 0" 9 9 9 9
    -- the exact decimal is judged, and the sum in f32
    ∷ refuses "M32768.000001 0" 9 9 10 1 ∷ refuses "M32768.0000001 0" 9 9 9 13 ∷ reads "M32768 0h.001" 3 4 (0 ∷ 1 ∷ 2 ∷ []) (0x47000000 ∷ 0 ∷ 0x47000000 ∷ 0 ∷ [])
    ∷ refuses "M32768 0h.01" 9 9 10 9 ∷ refuses "M-32768 0h40000" 9 9 10 10 ∷ refuses "M-32768-32768l-.001-.01" 9 9 10 19
    -- a run begins again behind Z, and m adds to the closed run's first point
    ∷ reads "M1 2Zh1" 5 6 (0 ∷ 3 ∷ 0 ∷ 1 ∷ 2 ∷ []) (0x3f800000 ∷ 0x40000000 ∷ 0x3f800000 ∷ 0x40000000 ∷ 0x40000000 ∷ 0x40000000 ∷ [])
    ∷ reads "M1 2l1 2zm1 1" 5 6 (0 ∷ 1 ∷ 3 ∷ 0 ∷ 2 ∷ []) (0x3f800000 ∷ 0x40000000 ∷ 0x40000000 ∷ 0x40800000 ∷ 0x40000000 ∷ 0x40400000 ∷ [])
    -- sums are f32 sums; the nearest f32 of the exact decimal, not of its parts or of a quotient
    ∷ reads "M.1 0h.6" 3 4 (0 ∷ 1 ∷ 2 ∷ []) (0x3dcccccd ∷ 0 ∷ 0x3f333334 ∷ 0 ∷ []) ∷ reads "M-.0 1.18" 2 2 (0 ∷ 2 ∷ []) (0 ∷ 0x3f970a3d ∷ [])
    ∷ reads "m34.00001 0v-1V2" 4 6 (0 ∷ 1 ∷ 1 ∷ 2 ∷ []) (0x42080003 ∷ 0 ∷ 0x42080003 ∷ 0xbf800000 ∷ 0x42080003 ∷ 0x40000000 ∷ [])
    -- no room
    ∷ refuses "M0 0L0 0" 2 4 11 0 ∷ refuses "M0 0L0 0" 3 3 11 0
    ∷ []

pub worked : every cases ≡ true
unfolding bytes same leaves says every cases outcome_of through_of stepped class_of put_at over of_bits to_bits round add lt neg
worked = refl
