-- `lines::byte_lists::put_pairs` meets its contract. The loop's invariant is `Pairing`. Assumes nothing.
use Rattle.lines.proofs.Pairs.{Pairing}
use Rattle.lines.proofs.byte_lists.put_pairs.Given as goal

abbrev pub invariant-loop-i : goal.invariant-loop-i
invariant-loop-i l = Pairing l.word l.initial.list l.list l.i
