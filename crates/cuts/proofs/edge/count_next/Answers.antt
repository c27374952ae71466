-- `cuts::edge::count_next` meets its contract. Assumes nothing.
use Rattle.cuts.proofs.Counting.{turned_bounded}
use Rattle.cuts.proofs.edge.count_next.Goals as goal

pub count_on-requires : goal.count_on-requires
count_on-requires c =
    (c.requires.0, rw c.turned.ensures (turned_bounded c.args.ds.now c.args.t c.requires.1 c.args.p))

pub returns : goal.returns
returns c = rw c.turned.ensures at c.count_on.ensures
