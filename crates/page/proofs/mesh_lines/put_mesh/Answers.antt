-- `page::mesh_lines::put_mesh` meets its contract. Assumes nothing.
use mathlib.Core.List.{append_assoc}
use Rattle.lines.proofs.Behind.{puts_then}
use Rattle.page.specs.Page.{mesh_page}
use Rattle.page.proofs.mesh_lines.put_mesh.Goals as goal

pub returns-clause-puts : goal.returns-clause-puts
unfolding mesh_page
returns-clause-puts c = rw (← append_assoc) (puts_then c.put_list-drawn.ensures.puts c.put_list.ensures.puts)
