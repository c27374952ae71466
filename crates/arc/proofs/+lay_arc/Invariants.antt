-- The level falls at both calls of `arc::lay_arc` to itself. Assumes nothing.
use Rattle.arc.proofs.+lay_arc.Given as goal

abbrev pub decreases-lay_arc : goal.decreases-lay_arc
decreases-lay_arc l = l.level
