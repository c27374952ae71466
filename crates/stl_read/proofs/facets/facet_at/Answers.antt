-- `stl_read::facets::facet_at` meets its contract. Assumes nothing.
use native.Mathlib.Omega.{arith}
use Rattle.stl.specs.File.{facet_at}
use Rattle.stl_read.proofs.Fine.{facet_corners}
use Rattle.stl_read.proofs.facets.facet_at.Goals as goal

pub corner_at-requires : goal.corner_at-requires
corner_at-requires c = (omega (arith, c.requires.0), (facet_corners _ _ c.requires.1).0)

pub corner_at-requires-2 : goal.corner_at-requires-2
corner_at-requires-2 c = (omega (arith, c.requires.0), (facet_corners _ _ c.requires.1).1)

pub corner_at-requires-3 : goal.corner_at-requires-3
corner_at-requires-3 c = (omega (arith, c.requires.0), (facet_corners _ _ c.requires.1).2)

pub returns : goal.returns
unfolding facet_at
returns c = rw (c.corner_at.ensures, c.corner_at-2.ensures, c.corner_at-3.ensures)
