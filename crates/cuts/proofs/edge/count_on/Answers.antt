-- `cuts::edge::count_on` meets its contract. Assumes nothing.
use native.Mathlib.Omega.{arith}
use Rattle.cuts.proofs.Counting.{edge_few, edge_many}
use Rattle.cuts.proofs.edge.count_on.Goals as goal

pub returns-then-t-gt-CUT_LIMIT : goal.returns-then-t-gt-CUT_LIMIT
returns-then-t-gt-CUT_LIMIT c = edge_many _ _ c.requires.1 c.if-t-gt-CUT_LIMIT.true

pub count_edge-e-requires : goal.count_edge-e-requires
count_edge-e-requires c = (c.requires.0, omega (arith, c.if-t-gt-CUT_LIMIT.false, c.requires.1.index c.if-t-gt-CUT_LIMIT.false))

pub overflow_add-t : goal.overflow_add-t
overflow_add-t c = omega (arith, c.if-t-gt-CUT_LIMIT.false, c.count_edge-e.ensures.most)

pub returns : goal.returns
returns c =
    edge_few _ c.args.t c.requires.1 c.count_edge-e.result _ c.if-t-gt-CUT_LIMIT.false c.count_edge-e.ensures c.capped.ensures
