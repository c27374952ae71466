-- Document 01's example, computed: "For `M0 1L2 1` it prints just this". Assumes nothing.
use native.Mathlib.Omega.{arith}
use lib.Count.{count_leading_zeros}
use lib.Ieee.{sub, mul, div, le, of_bits, to_bits, of_int, lt, neg, round}
use Rattle.lists.specs.Over.{over, flat, put_at}
use Rattle.root.specs.Compute.{floor_root, parts_root, bits_root, root_of}
use Rattle.plane.specs.Vector.{plus_of, minus_of, times_of, divided_of, negated_of, turned_of, square_length_of, length_of}
use Rattle.endpoint.specs.Endpoint.{single_of}
use Rattle.join.specs.Edge.{edge_side_of, edge_of}
use Rattle.vertices.specs.Base.{base_vertex_of, side_vertices_of}
use Rattle.vertices.specs.Vertex.{vertex_of}
use Rattle.path.specs.Coordinates.{coordinate_in, first_outside}
use Rattle.options.specs.Options.{within, in_range, line_join_of, line_cap_of, prepared_of, stroke_of, is_round}
use Rattle.cuts.specs.Checked.{cut_checked_of}
use Rattle.cuts.specs.Cuts.{has_too_many_cuts}
use Rattle.cuts.specs.Runs.{cut_run, cut_runs}
use Rattle.dashes.specs.Pattern.{pattern_in, lengths_in, offset_in}
use Rattle.path.specs.Path.{malformed, checked_of}
use Rattle.path.specs.Runs.{runs_from}
use Rattle.path.specs.Verbs.{names, placed, first_misplaced, ends_inside, named, point_count}
use Rattle.kept.specs.Points.{endpoints_of}
use Rattle.joints.specs.Joint.{data_of, cap_of, start_cap_of, end_cap_of, joints_from, joints_of}
use Rattle.kept.specs.Kept.{near_of, kept_behind, kept_points}
use Rattle.joints.specs.Leg.{leg_of}
use Rattle.strip.specs.Joint.{vertex_count, joint_vertices_of, vertices_of}
use Rattle.strip.specs.Section.{sections}
use Rattle.strip.specs.Triangle.{different, tri_of, between, strip_of, through}
use Rattle.run.specs.Run.{shape_of, shape_count, shape_vertices, shape_triangles}
use Rattle.runs.specs.Runs.{mesh_vertices, mesh_count, mesh_triangles}
use Rattle.mesh.specs.Mesh.{accepted_of, stroked_of, outcome_of}
use Rattle.form.specs.Bytes.{class_of}
use Rattle.reader.specs.Pass.{stepped}
use Rattle.reader.specs.Read.{through_of, outcome_of as read_of}
use Rattle.reader.proofs.Meets.{meets}
use Rattle.lines.specs.Digits.{glyph_of, digits_of, places_up_to, decimal_of}
use Rattle.page.specs.Page.{bytes, verb_room, coord_room, lines_to, mesh_page, mesh_page_of, read_page_of, Prints, read_text}

-- what the checker opens to compute it
arithmetic : Unit {0}
unfolding count_leading_zeros sub mul div neg lt le round of_bits to_bits of_int floor_root parts_root bits_root root_of
arithmetic = tt

vectors : Unit {0}
unfolding plus_of minus_of times_of divided_of negated_of turned_of square_length_of length_of
vectors = tt

joins : Unit {0}
unfolding single_of edge_side_of edge_of base_vertex_of side_vertices_of vertex_of
joins = tt

paths : Unit {0}
unfolding coordinate_in first_outside within in_range line_join_of line_cap_of prepared_of stroke_of pattern_in lengths_in offset_in is_round malformed checked_of cut_checked_of has_too_many_cuts cut_runs cut_run runs_from names placed first_misplaced ends_inside named point_count endpoints_of
paths = tt

runs : Unit {0}
unfolding data_of cap_of start_cap_of end_cap_of joints_from joints_of near_of kept_behind kept_points leg_of
runs = tt

meshes : Unit {0}
unfolding vertex_count joint_vertices_of vertices_of sections flat different tri_of between strip_of through shape_of shape_count shape_vertices shape_triangles mesh_vertices mesh_count mesh_triangles
meshes = tt

calls : Unit {0}
unfolding accepted_of stroked_of outcome_of over put_at class_of stepped through_of read_of glyph_of digits_of places_up_to decimal_of lines_to mesh_page mesh_page_of read_page_of
calls = tt

pub example : Prints (bytes "M0 1L2 1") (bytes "v 4\n00000000 40000000\n00000000 00000000\n40000000 40000000\n40000000 00000000\nt 2\n1 0 2\n1 2 3\n")
unfolding arithmetic vectors joins paths runs meshes calls
example = read_text (read_of (bytes "M0 1L2 1") verb_room coord_room) (omega arith) (meets (bytes "M0 1L2 1") verb_room coord_room)
