-- The loop of `dashed::draw_dashes`: what each turn keeps, and what falls. Assumes nothing.
use mathlib.Core.Path.{◌≡◌}
use lib.ListN.{length}
use Rattle.pieces.specs.Piece.{lent}
use Rattle.kept.specs.Held.{run_of}
use Rattle.feed.specs.Trail.{trail_dashes}
use Rattle.dashed.specs.Dashed.{run_piece}
use Rattle.dashed.proofs.Drawing.{Drawing}
use Rattle.dashed.proofs.draw_dashes.Given as goal

abbrev pub invariant-loop-next : goal.invariant-loop-next
invariant-loop-next l =
    Drawing l.pass l.r l.k.points.coords.now l.k.points.first.0 l.ds l.initial.place (run_piece l.pass.stroke l.r l.initial.place.base l.closed l.ds l.offset (run_of l.pass.stroke.near l.k)) (lent l.initial.v l.initial.src l.initial.t) l.place l.next (lent l.v l.src l.t)
    × (length l.v ≡ length l.initial.v) × (length l.src ≡ length l.initial.src) × (length l.t ≡ length l.initial.t)

abbrev pub decreases-loop-next : goal.decreases-loop-next
decreases-loop-next l = length (trail_dashes l.pass.stroke.near l.k.points.coords.now l.k.points.first.0 l.ds l.next)
