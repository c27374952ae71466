-- `bends::pass_bend` meets its contract. Assumes nothing.
use Rattle.strip.proofs.Counting.{steps_one}
use Rattle.bends.proofs.Writing.{one_fits, next_is, count_fits, one_puts}
use Rattle.bends.proofs.pass_bend.Goals as goal

pub step-next-requires : goal.step-next-requires
step-next-requires c = steps_one c.requires.strip c.positive_count-p.result c.negative_count-n.result c.positive_count-p.ensures c.negative_count-n.ensures

pub place_bend-requires : goal.place_bend-requires
place_bend-requires c =
    let e = next_is c.requires c.positive_count-p.result c.negative_count-n.result c.positive_count-p.ensures c.negative_count-n.ensures c.step-next.result c.step-next.ensures in
    record { bend_fits = one_fits c.requires; count_fits = count_fits c.requires c.step-next.result e }

pub returns : goal.returns
returns c =
    let e = next_is c.requires c.positive_count-p.result c.negative_count-n.result c.positive_count-p.ensures c.negative_count-n.ensures c.step-next.result c.step-next.ensures in
    one_puts c.requires c.step-next.result e c.place_bend.result c.place_bend.ensures
