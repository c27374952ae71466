-- W-207's sentence: points that are kept of any inside the limits have no short edge, and more, none whose offset points are nearer than 2 ^ -20, squared.
-- Assumes nothing.
use lib.Ieee.{Float}
use Rattle.far.specs.Short.{so_near, least_left, NeverShort}
use Rattle.far.proofs.Ranges.{half, range_limit}
use Rattle.far.proofs.Apart.{Reached, so_near_reached, least_left_reached}
use Rattle.far.proofs.Course.{run_none}
use Rattle.plane.specs.F32.{◌⊗◌}

never : (bound : Float) → Reached bound → NeverShort bound
never bound b r h range width closed ps i = run_none (r ⊗ r) h (range_limit r range) (half h width) bound b closed ps i

pub never_short : NeverShort so_near
never_short = never so_near so_near_reached

-- the margin
pub still_apart : NeverShort least_left
still_apart = never least_left least_left_reached
