-- P8 and the edges of the domain, computed by the checker over `compute_normal_of`: one statement over one list. Assumes nothing.
use mathlib.Core.Path.{◌≡◌, refl}
use mathlib.Core.Bool.{Bool, true, ◌&&◌}
use mathlib.Core.List.{List, [], ◌∷◌}
use Prim.Native.Nat.{ℕ}
use lib.Count.{count_leading_zeros}
use lib.Dec.{eqb}
use lib.Ieee.{binary32, add, sub, mul, div, neg, lt, le, of_bits, to_bits}
use Rattle.root.specs.Compute.{floor_root, parts_root, bits_root, root_of}
use Rattle.plane.specs.F32.{f32}
use Rattle.plane.specs.Vector.{point, plus_of, divided_of, turned_of, dot_of, square_length_of, length_of, normalize_of}
use Rattle.plane.specs.Normal.{normal_of, in_domain, compute_normal_of}
use Rattle.plane.specs.declared.normal.NormalAnswer.{NormalAnswer}

-- the patterns of two vectors, and the number and the patterns of the vector that is answered
pub record Case : Type 0 where
  pub x1 : ℕ
  pub y1 : ℕ
  pub x2 : ℕ
  pub y2 : ℕ
  pub number : ℕ
  pub x : ℕ
  pub y : ℕ

abbrev case : ℕ → ℕ → ℕ → ℕ → ℕ → ℕ → ℕ → Case
case a b c d n x y = record { x1 = a; y1 = b; x2 = c; y2 = d; number = n; x = x; y = y }

says : NormalAnswer → Case → Bool
says a c = eqb a.number c.number && eqb (to_bits binary32 a.x) c.x && eqb (to_bits binary32 a.y) c.y

pub every : List Case → Bool
every [] = true
every (c ∷ cs) = says (compute_normal_of (point (f32 c.x1) (f32 c.y1)) (point (f32 c.x2) (f32 c.y2))) c && every cs

pub cases : List Case
cases =
    -- P8: (1,0) twice is (-0,1); (1,0), (-1,0) is (0,0)
    case 0x3f800000 0 0x3f800000 0 0 0x80000000 0x3f800000
    ∷ case 0x3f800000 0 0xbf800000 0 0 0 0
    -- a right angle: (1,0), (0,1) is (-1,1)
    ∷ case 0x3f800000 0 0 0x3f800000 0 0xbf800000 0x3f800000
    -- 2 is in the domain; the next f32, an infinity and a NaN are not
    ∷ case 0x40000000 0x40000000 0x40000000 0x40000000 0 0xbe800000 0x3e800000
    ∷ case 0x40000001 0 0 0 4 0 0
    ∷ case 0 0 0 0xff800000 4 0 0
    ∷ case 0 0x7fc00000 0 0 4 0 0
    ∷ []

pub worked : every cases ≡ true
unfolding every says cases compute_normal_of normal_of in_domain plus_of divided_of turned_of dot_of square_length_of length_of normalize_of root_of bits_root parts_root floor_root count_leading_zeros add sub mul div neg lt le of_bits to_bits
worked = refl
