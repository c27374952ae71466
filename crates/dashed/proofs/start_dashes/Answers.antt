-- `dashed::start_dashes` meets its contract. Assumes nothing.
use Rattle.along.proofs.Held.{held_within}
use Rattle.dashed.proofs.Starting.{feed_fits, starts_on, starts_off}
use Rattle.dashed.proofs.start_dashes.Goals as goal

pub returns-then-is_dash : goal.returns-then-is_dash
returns-then-is_dash c =
    starts_on _ _ _ _ _ _ _ (held_within c.args.k) c.requires.0 c.requires.1 (rw c.worn.ensures at c.first_cut-b.ensures) c.first_feed.ensures c.is_dash.ensures c.if-is_dash.true c.p0.ensures

pub next_dash-requires : goal.next_dash-requires
next_dash-requires c =
    feed_fits _ _ _ _ _ _ _ (held_within c.args.k) c.requires.0 c.requires.1 (rw c.worn.ensures at c.first_cut-b.ensures) c.first_feed.ensures c.is_dash.ensures

pub returns : goal.returns
returns c =
    starts_off _ _ _ _ _ _ _ (held_within c.args.k) c.requires.0 c.requires.1 (rw c.worn.ensures at c.first_cut-b.ensures) c.first_feed.ensures c.is_dash.ensures c.if-is_dash.false _ c.next_dash.ensures
