-- `dashed::strips::strip_on` meets its contract. The plan: `Stripping` says how far the dash has come, point by point. Assumes nothing.
use borrow.Author.Rules.{rules}
use mathlib.Core.Path.{refl}
use Rattle.dashed.proofs.Stripping.{stripping_none, turn_counted, turn_has, turn, end_has, end}
use Rattle.dashed.proofs.strips.strip_on.Goals as goal

pub loop-q-init : goal.loop-q-init
loop-q-init c = (stripping_none _ _ _ _ _ _ _ c.requires.feed_fits.0 c.requires.feed_fits.1, refl, refl, refl)

pub strip_one-w-requires : goal.strip_one-w-requires
strip_one-w-requires c =
    let s = c.loop-q.invariant.0 in
    let f = c.in-Some.ensures in
    record { well_numbered = turn_counted _ _ _ _ s _ _ f; strip_fits = turn_has _ _ _ _ s _ _ f c.requires.strip_fits }

pub loop-q-preserved : goal.loop-q-preserved
loop-q-preserved c =
    let l = c.loop-q in
    (turn _ _ _ _ l.invariant.0 _ _ c.in-Some.ensures c.strip_one-w.ensures, search (rules, l.invariant.1), search (rules, l.invariant.2), search (rules, l.invariant.3))

pub finish-requires : goal.finish-requires
finish-requires c = end_has _ _ _ _ c.loop-q.invariant.0 _ c.in_default.ensures c.requires.strip_fits

pub returns : goal.returns
returns c = end _ _ _ _ c.loop-q.invariant.0 _ c.in_default.ensures c.finish.ensures
