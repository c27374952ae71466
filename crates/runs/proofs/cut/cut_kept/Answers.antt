-- `runs::cut::cut_kept` meets its contract. Assumes nothing.
use Prim.Native.Nat.{◌<◌}
use mathlib.Core.Path.{◌≡◌}
use native.Mathlib.Omega.{arith}
use lib.ListN.{length}
use Rattle.std.proofs.lemmas.Grind.{common_steps}
use Rattle.runs.proofs.Cutting.{no_lengths, no_points, second_here, second_none}
use Rattle.runs.proofs.cut.cut_kept.Goals.{then-is_empty-via-then-is_empty, then-is_empty-via-else-is_empty+then-p-lt2}
use Rattle.runs.proofs.cut.cut_kept.Goals as goal

pub returns-then-is_empty : goal.returns-then-is_empty
returns-then-is_empty c =
    elim c.then-is_empty.branch [
      | then-is_empty-via-then-is_empty w ↦ (let none : length c.args.ds.now ≡ 0 = grind (arith, common_steps) in no_lengths _ _ _ _ _ none)
      | then-is_empty-via-else-is_empty+then-p-lt2 w ↦ no_points _ _ _ _ _ w.if-p-lt2.true
    ]

pub returns-then-second-count : goal.returns-then-second-count
returns-then-second-count c =
    let some : 0 < length c.args.ds.now = grind (arith, common_steps) in
    second_here _ _ _ _ _ _ some c.kept_to.ensures _ c.up_to-points.ensures.coords_value c.up_to-points.ensures.first_value c.first_far-second.ensures

pub returns-else-second-count : goal.returns-else-second-count
returns-else-second-count c =
    let some : 0 < length c.args.ds.now = grind (arith, common_steps) in
    second_none _ _ _ _ _ _ some c.kept_to.ensures c.up_to-points.result c.up_to-points.ensures.coords_value c.up_to-points.ensures.first_value _ c.first_far-second.ensures (rw c.count.ensures at c.if-second-count.false)
