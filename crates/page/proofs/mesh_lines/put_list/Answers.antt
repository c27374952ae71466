-- `page::mesh_lines::put_list` meets its contract. The loop's invariant is `Listing`. Assumes nothing.
use native.Mathlib.Omega.{arith}
use Rattle.lines.proofs.Behind.{puts_then}
use Rattle.page.proofs.Listing.{listing_starts, listing_goes, listing_ends}
use Rattle.page.proofs.mesh_lines.put_list.Goals as goal

pub loop-i-init : goal.loop-i-init
loop-i-init g c = listing_starts

pub loop-i-preserved : goal.loop-i-preserved
loop-i-preserved g c = let p = c.requires.1.1.1 _ _ _ _ _ c.put-next.ensures in listing_goes c.loop-i.invariant (omega arith) p.0 p.1

pub returns-clause-puts : goal.returns-clause-puts
returns-clause-puts g c = puts_then c.put_count-next.ensures.puts (listing_ends c.loop-i.invariant c.loop-i-test.false)
