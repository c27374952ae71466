-- `mesh::count_accepted` meets its contract. Assumes nothing.
use borrow.Author.Rules.{rules}
use Rattle.mesh.proofs.Rooms.{sound_paired, counts_fit, counted}
use Rattle.mesh.proofs.count_accepted.Goals as goal

pub draw_runs-requires : goal.draw_runs-requires
draw_runs-requires c = let pre = c.requires in record { paired = sound_paired _ _ pre.0; cuts_few = pre.1; fits = counts_fit _ _ _ _ pre.0 pre.1 _ }

pub returns : goal.returns
returns c = counted _ _ _ _ _ _ _ _ (search rules) (search rules) (search rules) c.draw_runs.ensures
