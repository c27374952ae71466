-- `bends::place_bend` meets its contract. Assumes nothing.
use mathlib.Core.Bool.{true≢false}
use mathlib.Core.Path.{sym, ◌∙◌}
use Rattle.bends.proofs.Sizes.{counted_is}
use Rattle.bends.proofs.place_bend.Goals as goal

pub lay_bend-requires : goal.lay_bend-requires
lay_bend-requires c = rw c.if-write.true at c.requires.bend_fits

pub returns-then-write : goal.returns-then-write
returns-then-write c = rw c.if-write.true c.lay_bend.ensures

pub returns-else-write : goal.returns-else-write
returns-else-write c = record { place = c.count_bend.ensures ∙ counted_is c.args.o c.args.r c.args.w c.args.b c.args.next c.requires.count_fits; lists = λ w. absurd (true≢false (sym w ∙ c.if-write.false)) }
