-- Closed examples, computed by the checker over `root_answer`: one statement over one list. Assumes nothing.
use mathlib.Core.Path.{◌≡◌, refl}
use mathlib.Core.Bool.{Bool, true, ◌&&◌}
use mathlib.Core.List.{List, [], ◌∷◌}
use Prim.Native.Nat.{ℕ}
use lib.Dec.{eqb}
use lib.Count.{count_leading_zeros}
use lib.Ieee.{binary32, of_bits, to_bits}
use Rattle.root.specs.Compute.{floor_root, parts_root, bits_root, root_of, root_answer}
use Rattle.root.specs.declared.Answer.{Answer}

-- the pattern of x, and the number and the pattern of the value that `root` answers
pub record Case : Type 0 where
  pub x : ℕ
  pub number : ℕ
  pub value : ℕ

abbrev case : ℕ → ℕ → ℕ → Case
case x n v = record { x = x; number = n; value = v }

says : Answer → Case → Bool
says a c = eqb a.number c.number && eqb (to_bits binary32 a.value) c.value

pub every : List Case → Bool
every [] = true
every (c ∷ cs) = says (root_answer (of_bits binary32 c.x)) c && every cs

pub cases : List Case
cases =
    -- P6: the root of 4 is 2, that of 2 has the pattern 3FB504F3
    case 0x40800000 0 0x40000000 ∷ case 0x40000000 0 0x3fb504f3
    -- +0, the least and the greatest subnormal number, the least normal one, 1 and its neighbours, the greatest
    ∷ case 0x00000000 0 0x00000000 ∷ case 0x00000001 0 0x1a3504f3 ∷ case 0x007fffff 0 0x1fffffff ∷ case 0x00800000 0 0x20000000
    ∷ case 0x3f7fffff 0 0x3f7fffff ∷ case 0x3f800000 0 0x3f800000 ∷ case 0x3f800001 0 0x3f800000 ∷ case 0x7f7fffff 0 0x5f7fffff
    -- -0, -1, the infinities, a NaN
    ∷ case 0x80000000 13 0 ∷ case 0xbf800000 13 0 ∷ case 0x7f800000 13 0 ∷ case 0xff800000 13 0 ∷ case 0x7fc00000 13 0 ∷ []

pub worked : every cases ≡ true
unfolding every says cases root_of bits_root parts_root floor_root count_leading_zeros of_bits to_bits
worked = refl
