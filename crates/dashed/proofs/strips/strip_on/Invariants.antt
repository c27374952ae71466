-- The loop of `dashed::strips::strip_on`: what each turn keeps, and what falls. Assumes nothing.
use mathlib.Core.Path.{◌≡◌}
use lib.ListN.{length}
use Rattle.pieces.specs.Piece.{lent}
use Rattle.feed.specs.Trail.{trail_points}
use Rattle.dashed.proofs.Stripping.{Stripping}
use Rattle.dashed.proofs.strips.strip_on.Given as goal

abbrev pub invariant-loop-q : goal.invariant-loop-q
invariant-loop-q l =
    Stripping l.pass l.p.coords.now l.p.first.0 l.ds l.initial.w l.initial.trail (lent l.initial.v l.initial.src l.initial.t) l.w l.trail (lent l.v l.src l.t)
    × (length l.v ≡ length l.initial.v) × (length l.src ≡ length l.initial.src) × (length l.t ≡ length l.initial.t)

abbrev pub decreases-loop-q : goal.decreases-loop-q
decreases-loop-q l = length (trail_points l.pass.stroke.near l.p.coords.now l.p.first.0 l.ds l.trail)
