-- How deep a stroke's arcs go. Assumes nothing.
use Prim.Native.Nat.{◌≤◌}
use mathlib.Core.Path.{◌≡◌, refl}
use mathlib.Core.Bool.{Bool, true, false, cond}
use native.Mathlib.Omega.{arith}
use borrow.Author.Tests.{ltb-true, ltb-false}
use lib.Dec.{ltb}
use Rattle.options.specs.Options.{is_round, level_of}
use Rattle.options.specs.declared.Stroke.{Stroke}

pub level_few : (o : Stroke) → level_of o ≤ 6
unfolding level_of
level_few o = go (is_round o) (ltb o.detail 6) refl
  where
    go : (round low : Bool) → ltb o.detail 6 ≡ low → cond round (cond low o.detail 6) 0 ≤ 6
    go false low e = omega arith
    go true false e = omega arith
    go true true e = omega (arith, ltb-true o.detail 6 e)

-- "an arc detail k from 0 to 6": an accepted stroke's is k as it stands
pub level_is : (o : Stroke) → is_round o ≡ true → o.detail ≤ 6 → level_of o ≡ o.detail
unfolding level_of
level_is o round few = rw round (go (ltb o.detail 6) refl)
  where
    go : (low : Bool) → ltb o.detail 6 ≡ low → cond low o.detail 6 ≡ o.detail
    go true e = refl
    go false e = omega (arith, ltb-false o.detail 6 e)
