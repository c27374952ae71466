-- `feed::trail::next_dash` meets its contract. Assumes nothing.
use Rattle.feed.proofs.Trailing.{seek_cut, seek_on, seek_end}
use Rattle.feed.proofs.trail.next_dash.Goals as goal

pub returns-in-Cut : goal.returns-in-Cut
returns-in-Cut c = seek_cut _ _ _ _ _ _ c.loop-feed.invariant _ c.in-Some.is _ c.next_fed-m.ensures _ c.in-Cut.is

pub loop-feed-preserved : goal.loop-feed-preserved
loop-feed-preserved c = seek_on _ _ _ _ _ _ c.loop-feed.invariant _ c.in-Some.is _ c.next_fed-m.ensures _ c.in_default-mark.is

pub returns : goal.returns
returns c = seek_end _ _ _ _ _ _ c.loop-feed.invariant c.in_default.is
