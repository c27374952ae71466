-- `cuts::run_cuts::count_kept` meets its contract. The plan: no second point is kept (`run_alone`), or the count goes through all points (`run_through`), and on to the first
-- where the run is closed. Assumes nothing.
use Prim.Native.Nat.{◌+◌}
use mathlib.Core.Path.{◌≡◌, ◌∙◌}
use mathlib.Core.Bool.{Bool, true, false, cond}
use mathlib.Core.List.{[], ◌∷◌}
use native.Mathlib.Omega.{arith}
use Rattle.kept.specs.Kept.{kept_points}
use Rattle.kept.specs.Points.{endpoints_of, endpoint_at}
use Rattle.cuts.specs.Cuts.{kept_cuts, capped_of}
use Rattle.cuts.specs.Counts.{goes_on}
use Rattle.cuts.proofs.Counting.{start_bounded, run_alone, run_through, all_open, all_closed}
use Rattle.cuts.proofs.run_cuts.count_kept.Goals.{After-count_points-t}
use Rattle.cuts.proofs.run_cuts.count_kept.Goals as goal

pub returns-then-count-i : goal.returns-then-count-i
returns-then-count-i c =
    run_alone _ _ _ _ c.requires.0 _ _ _ _ c.requires.1 c.first_far-i.ensures (rw c.count.ensures at c.if-count-i.true)

pub count_on-requires : goal.count_on-requires
count_on-requires c =
    (c.requires.0.some, rw c.spot_of.ensures (start_bounded c.args.limit c.args.ds.now c.args.b c.args.n c.requires.0 _ _))

pub overflow_add-i : goal.overflow_add-i
overflow_add-i c = omega (arith, rw c.count.ensures at c.if-count-i.false, c.args.p.numbered)

pub count_points-t-requires : goal.count_points-t-requires
count_points-t-requires c =
    let pre = c.requires in
    (pre.0.some, c.count_on.ensures.bounded, omega (arith, rw c.count.ensures at c.if-count-i.false))

pub count_next-requires : goal.count_next-requires
count_next-requires c =
    let pre = c.requires in
    (pre.0.some, c.count_points-t.ensures.bounded)

through : (c : After-count_points-t) (closed : Bool) → let a = c.args in let p0 = endpoint_at a.p.coords.now a.p.first.0 0 in
    goes_on a.ds.now c.count_points-t.result (cond closed (p0 ∷ []) [])
    ≡ capped_of (a.n + kept_cuts closed a.ds.now a.b (kept_points a.limit false (endpoints_of a.p.first.0 a.p.coords.now)))
through c closed =
    run_through _ _ _ _ c.requires.0 closed _ _ _ c.requires.1 c.first_far-i.ensures (rw c.count.ensures at c.if-count-i.false) _ _
    (rw (c.spot_of.ensures, c.at.ensures, c.at-p0.ensures) at c.count_on.ensures) c.count_points-t.ensures

pub returns-then-closed : goal.returns-then-closed
returns-then-closed c =
    rw c.if-closed.true
    (all_closed _ _ _ _ (rw c.at-p0.ensures at c.count_next.ensures) ∙ through (goal.at.returns-then-closed c).After-count_points-t true)

pub returns : goal.returns
returns c = rw c.if-closed.false (all_open _ _ c.count_points-t.ensures.bounded ∙ through (goal.at.returns c).After-count_points-t false)
