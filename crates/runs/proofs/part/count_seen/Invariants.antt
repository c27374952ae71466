-- The loop of `runs::part::count_seen`: what each turn keeps. Assumes nothing.
use Rattle.pieces.specs.Piece.{lent}
use Rattle.kept.specs.Points.{endpoints_of}
use Rattle.runs.proofs.Seeing.{Seeing}
use Rattle.runs.proofs.part.count_seen.Given as goal

abbrev pub invariant-loop-verb : goal.invariant-loop-verb
invariant-loop-verb l = Seeing l.stroke l.ds l.run l.verbs (endpoints_of 0 l.coords) (lent l.initial.v l.initial.src l.initial.t) l.verb-index l.g l.s (lent l.v l.src l.t)
