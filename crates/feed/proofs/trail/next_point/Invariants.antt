-- `feed::trail::next_point` meets its contract. Assumes nothing.
use lib.ListN.{length}
use Rattle.feed.specs.Feed.{comes}
use Rattle.feed.proofs.Trailing.{Going}
use Rattle.feed.proofs.trail.next_point.Given as goal

abbrev pub invariant-loop-t : goal.invariant-loop-t
invariant-loop-t l = Going l.near l.p.coords.now l.p.first.0 l.ds l.initial.t l.t

abbrev pub decreases-loop-t : goal.decreases-loop-t
decreases-loop-t l = length (comes l.near l.p.coords.now l.p.first.0 l.ds l.t.feed)
