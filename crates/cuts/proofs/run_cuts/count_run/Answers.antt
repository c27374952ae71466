-- `cuts::run_cuts::count_run` meets its contract. Assumes nothing.
use native.Mathlib.Omega.{arith}
use Rattle.cuts.proofs.Counting.{run_empty, run_ended}
use Rattle.cuts.proofs.run_cuts.count_run.Goals as goal

pub returns-then-p-lt2 : goal.returns-then-p-lt2
returns-then-p-lt2 c = run_empty _ _ _ _ c.requires _ _ _ c.if-p-lt2.true

pub overflow_mul-to : goal.overflow_mul-to
overflow_mul-to c = omega (arith, c.kept_end-to.ensures.within, c.args.p.numbered)

pub up_to-requires : goal.up_to-requires
up_to-requires c = omega (arith, c.kept_end-to.ensures.within)

pub returns-then-closed : goal.returns-then-closed
returns-then-closed c =
    rw c.if-closed.true
    (run_ended _ _ _ _ c.requires _ _ _ _ (omega (arith, c.if-p-lt2.false)) c.kept_end-to.ensures (rw (c.up_to.ensures.coords_value, c.up_to.ensures.first_value) at c.count_kept.ensures))

pub returns : goal.returns
returns c = rw c.if-closed.false c.count_kept-2.ensures
