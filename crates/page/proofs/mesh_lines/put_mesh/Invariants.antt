-- `page::mesh_lines::put_mesh` puts the lines of the vertices, then those of the triangles. Assumes nothing.
use Rattle.page.specs.Page.{vertex_line, triangle_line}
use Rattle.page.proofs.mesh_lines.put_mesh.Given as goal

abbrev pub ghost-put_list : goal.ghost-put_list
ghost-put_list a = vertex_line a.put.0.now

abbrev pub ghost-put_list-2 : goal.ghost-put_list-2
ghost-put_list-2 a = triangle_line a.put.0.now
