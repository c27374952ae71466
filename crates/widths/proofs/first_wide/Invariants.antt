-- `widths::first_wide` meets its contract. Every number before the loop's is one that a u16 holds. Assumes nothing.
use Prim.Native.Nat.{ℕ, ◌<◌}
use mathlib.Core.Path.{◌≡◌}
use mathlib.Core.Bool.{false}
use lib.Dec.{ltb}
use lib.ListN.{get_or}
use Rattle.widths.specs.Widths.{narrow_most}
use Rattle.widths.proofs.first_wide.Given as goal

abbrev pub invariant-loop-i : goal.invariant-loop-i
invariant-loop-i l = (k : ℕ) → k < l.i → ltb narrow_most (get_or l.numbers k 0) ≡ false
