-- The loop of `runs::draw_runs`: what each turn keeps. Assumes nothing.
use Rattle.pieces.specs.Piece.{lent}
use Rattle.kept.specs.Points.{endpoints_of}
use Rattle.runs.proofs.Drawing.{Going}
use Rattle.runs.proofs.draw_runs.Given as goal

abbrev pub invariant-loop-verb : goal.invariant-loop-verb
invariant-loop-verb l =
    Going l.pass.write l.pass.stroke l.ds l.verbs (endpoints_of 0 l.coords) (lent l.initial.v l.initial.src l.initial.t) l.verb-index l.g (lent l.v l.src l.t)
