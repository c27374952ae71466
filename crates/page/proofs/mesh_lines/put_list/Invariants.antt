-- `page::mesh_lines::put_list` meets its contract. The loop's invariant is `Listing`. Assumes nothing.
use Rattle.page.proofs.Listing.{Listing}
use Rattle.page.proofs.mesh_lines.put_list.Given as goal

abbrev pub invariant-loop-i : goal.invariant-loop-i
invariant-loop-i g l = Listing g.line_of l.n l.initial.next l.initial.out l.i l.next l.out
