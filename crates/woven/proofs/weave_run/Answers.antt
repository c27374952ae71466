-- `woven::weave_run` meets its contract. Assumes nothing.
use mathlib.Core.List.{[]}
use Rattle.pieces.specs.Piece.{lent}
use Rattle.woven.proofs.Runs.{ids, cap_fits, open_fits, open_passes}
use Rattle.along.proofs.Held.{held_within}
use Rattle.woven.proofs.weave_run.Goals as goal

pub weave_open-w-requires-clause-strip_fits : goal.weave_open-w-requires-clause-strip_fits
weave_open-w-requires-clause-strip_fits c =
    let a = c.args in
    cap_fits a.pass.stroke a.r a.base _ _ _ (rw c.if-closed.false at c.requires) (lent [] [] [])

pub weave_open-w-requires-clause-weave_fits : goal.weave_open-w-requires-clause-weave_fits
weave_open-w-requires-clause-weave_fits c =
    let a = c.args in
    open_fits a.pass.stroke a.r a.base _ _ _ (rw c.if-closed.false at c.requires) (ids a.pass.stroke.near (held_within a.k))

pub returns : goal.returns
returns c =
    let a = c.args in
    rw c.if-closed.false (open_passes a.pass.stroke a.r a.base _ _ _ c.weave_open-w.ensures)
