-- `feed::trail::next_dash` meets its contract. Assumes nothing.
use lib.ListN.{length}
use Rattle.feed.specs.Feed.{comes}
use Rattle.feed.proofs.Trailing.{Seeking}
use Rattle.feed.proofs.trail.next_dash.Given as goal

abbrev pub invariant-loop-feed : goal.invariant-loop-feed
invariant-loop-feed l = Seeking l.near l.p.coords.now l.p.first.0 l.ds l.initial.feed l.feed

abbrev pub decreases-loop-feed : goal.decreases-loop-feed
decreases-loop-feed l = length (comes l.near l.p.coords.now l.p.first.0 l.ds l.feed)
