-- Document 01's points, P1 to P10, and a few beside them, W-201's and W-208's among them, computed by the checker over the definitions: one statement over one list. Assumes nothing.
use Prim.Native.Nat.{ℕ, ◌+◌, ◌*◌}
use mathlib.Core.Path.{◌≡◌, refl}
use mathlib.Core.Bool.{Bool, true, false, ◌&&◌}
use mathlib.Core.List.{List, [], ◌∷◌, ◌++◌, map}
use lib.Count.{count_leading_zeros}
use lib.Dec.{eqb}
use lib.Ieee.{Float, nan, binary32, add, sub, mul, div, neg, lt, eq, ne, le, of_bits, to_bits}
use lib.ListN.{length, replicate, get_or}
use Rattle.plane.specs.F32.{f32}
use Rattle.plane.specs.Normal.{normal_of, in_domain, compute_normal_of}
use Rattle.endpoint.specs.Endpoint.{blank_of}
use Rattle.endpoint.specs.declared.EndpointData.{EndpointData}
use Rattle.window.specs.Answer.{got_of}
use Rattle.window.specs.Window.{last_three, last_replaced}
use Rattle.root.specs.Compute.{root_answer, floor_root, parts_root, bits_root, root_of}
use Rattle.plane.specs.Vector.{point, plus_of, minus_of, times_of, divided_of, negated_of, turned_of, dot_of, cross_of, square_length_of, length_of, normalize_of}
use Rattle.endpoint.specs.Endpoint.{single_of, pair_of}
use Rattle.join.specs.Clip.{zero_of, cut_of, side_line_of, unmoved_of, moved_of, clipped_of}
use Rattle.join.specs.Edge.{edge_side_of, edge_of}
use Rattle.join.specs.Record.{turn_of, inner_join_of, side_positions_of}
use Rattle.join.specs.Side.{corner_of, inward_of, min_of, past_of, overshoots_of, folded_of, folds_of, too_long, exceeded_of, tip_of, kind_of, decided_of, tip_point_of, clipped_pair_of, join_side_of}
use Rattle.vertices.specs.Base.{base_vertex_of, side_vertices_of}
use Rattle.vertices.specs.Cap.{cap_vertex_of, cap_pair_of, cap_vertices_of}
use Rattle.vertices.specs.Vertex.{vertex_of, triangle_of}
use Rattle.path.specs.Coordinates.{coordinate_in, first_outside}
use Rattle.options.specs.Options.{within, line_join_of, in_range, prepared_of, stroke_of, line_cap_of, is_round, level_of}
use Rattle.cuts.specs.Checked.{cut_checked_of}
use Rattle.cuts.specs.Cuts.{has_too_many_cuts, runs_cuts, cut_count}
use Rattle.cuts.specs.Runs.{lines_of, cut_run, cut_runs}
use Rattle.dashes.specs.Pattern.{pattern_in, lengths_in, offset_in, length_in, even_of, length_at, is_dash, worn_from, first_cut, next_cut}
use Rattle.dashes.specs.Marks.{falls_on, cut_of as cut_point, passed_of, spot_of, cuts_on, behind, cut_marks, marks_from, marks_of}
use Rattle.dashes.specs.Dashes.{dashes_from, dashes_of}
use Rattle.path.specs.Path.{malformed, checked_of}
use Rattle.path.specs.Runs.{runs_from}
use Rattle.path.specs.Verbs.{begin, line, end_open, end_closed, names, placed, first_misplaced, ends_inside, named, point_count}
use Rattle.kept.specs.Points.{endpoints_of}
use Rattle.joints.specs.Joint.{data_of, unworked_of, joint_of, cap_of, start_cap_of, end_cap_of, joints_from, joints_of}
use Rattle.kept.specs.Kept.{near_of, kept_behind, all_near, trimmed, kept_points}
use Rattle.joints.specs.Leg.{leg_of, next_leg_of}
use Rattle.strip.specs.Joint.{vertex_count, joint_vertices_of, vertices_of}
use Rattle.strip.specs.Section.{sections}
use Rattle.strip.specs.Triangle.{different, tri_of, between, strip_of, through}
use Rattle.arc.specs.Arc.{middle_of, arc_normals, arc_triangles, arc_vertex_of, arc_vertices}
use Rattle.fans.specs.Fans.{normal_at, first_normal, last_normal, hub_of, gets_arc, side_weft, start_fan, end_fan}
use Rattle.fans.specs.Weft.{then}
use Rattle.bends.specs.Bend.{edge_faces, due_weft, arcs_weft, end_weft, bend_weft}
use Rattle.bends.specs.Weave.{woven_from}
use Rattle.weave.specs.Points.{bends_from, bends_of}
use Rattle.woven.specs.Counts.{arc_sides}
use Rattle.woven.specs.Woven.{woven_of}
use Rattle.strip.specs.Strip.{step_of, steps_of, step_triangles}
use Rattle.run.specs.Run.{round_of, shape_of, shape_count, shape_vertices, shape_triangles}
use Rattle.runs.specs.Runs.{mesh_vertices, mesh_count, mesh_triangles}
use Rattle.pieces.specs.Piece.{lent}
use Rattle.mesh.specs.Mesh.{Outcome, accepted_of, stroked_of, outcome_of}
use Rattle.lists.specs.Over.{over, flat}
use Rattle.options.specs.declared.Options.{Options}

-- join and cap, and the pattern of the merge range
pub record Pen : Type 0 where
  pub join : ℕ
  pub cap : ℕ
  pub merge : ℕ

abbrev pen : ℕ → ℕ → Pen
pen join cap = record { join = join; cap = cap; merge = 0x3c000000 }

abbrev merging : ℕ → Pen
merging merge = record { join = 0; cap = 0; merge = merge }

-- width 2 and limit 4
abbrev options_of : Pen → Options
options_of p = record { width = f32 0x40000000; miter_limit = f32 0x40800000; line_join = p.join; cap = p.cap; merge_range = f32 p.merge; detail = 0; offset = f32 0 }

-- the endpoint k, otherwise blank, for the window's cases
abbrev numbered : ℕ → EndpointData
numbered k = record {
  position = blank_of.position;
  half_width = blank_of.half_width;
  advancement = blank_of.advancement;
  line_join = blank_of.line_join;
  id = record { 0 = k };
  positive = blank_of.positive;
  negative = blank_of.negative;
  fold_positive = blank_of.fold_positive;
  fold_negative = blank_of.fold_negative;
  inner_join = blank_of.inner_join;
}

pub data Call : Type 0 where
  push : ℕ → Call
  replace_last : ℕ → Call

-- what a window that holds xs holds after the calls
pub after : List EndpointData → List Call → List EndpointData
after xs [] = xs
after xs (push k ∷ cs) = after (last_three (xs ++ (numbered k ∷ []))) cs
after xs (replace_last k ∷ cs) = after (last_replaced xs (numbered k)) cs

pub data Case : Type 0 where
  -- verbs and the patterns of the coordinates; how many vertices and triangles there is room for; then the number, the place and both counts
  mesh : Pen → List ℕ → List ℕ → ℕ → ℕ → ℕ → ℕ → ℕ → ℕ → Case
  -- verbs and the patterns of the coordinates; how many vertices and triangles there are; then a vertex's number and the patterns of its place
  stands : Pen → List ℕ → List ℕ → ℕ → ℕ → ℕ → ℕ → ℕ → Case
  -- the patterns of the offset and of the dashes' lengths; verbs and the patterns of the coordinates; then the number and both counts
  dashed : Pen → ℕ → List ℕ → List ℕ → List ℕ → ℕ → ℕ → ℕ → Case
  -- the patterns of the merge range and of an open run's coordinates, and how many of its points are kept
  keeps : ℕ → List ℕ → ℕ → Case
  -- calls on a new window, and the endpoints that it then reads at 0, 1 and 2
  window : List Call → ℕ → ℕ → ℕ → Case
  -- a pattern, and the number and the pattern of its root
  root : ℕ → ℕ → ℕ → Case
  -- the patterns of two vectors, then the number and the patterns of the normal
  normal : ℕ → ℕ → ℕ → ℕ → ℕ → ℕ → ℕ → Case

reads : List EndpointData → ℕ → ℕ → Bool
reads xs i k = eqb (got_of xs i).endpoint.id.0 k

has_bits : List Float → ℕ → ℕ → Bool
has_bits xs i b = eqb (to_bits binary32 (get_or xs i nan)) b

says : Case → Bool
says (mesh p vs cs nv nt number place n m) =
    let a = (outcome_of vs (map f32 cs) (options_of p) [] (lent (replicate (5 * nv) (f32 0)) (replicate nv 0) (replicate (3 * nt) 0))).answer in
    eqb a.number number && eqb a.place place && (eqb a.vertices n && eqb a.triangles m)
says (stands p vs cs n m i x y) =
    let o = outcome_of vs (map f32 cs) (options_of p) [] (lent (replicate (5 * n) (f32 0)) (replicate n 0) (replicate (3 * m) 0)) in
    eqb o.answer.number 0 && (has_bits o.lists.vertices (5 * i) x && has_bits o.lists.vertices (5 * i + 1) y)
says (dashed p offset ds vs cs number n m) =
    let o = options_of p in
    let worn : Options = record { width = o.width; miter_limit = o.miter_limit; line_join = o.line_join; cap = o.cap; merge_range = o.merge_range; detail = 0; offset = f32 offset } in
    let a = (outcome_of vs (map f32 cs) worn (map f32 ds) (lent (replicate (5 * n) (f32 0)) (replicate n 0) (replicate (3 * m) 0))).answer in
    eqb a.number number && eqb a.place 0 && (eqb a.vertices n && eqb a.triangles m)
says (keeps r cs n) = eqb (length (kept_points (prepared_of (options_of (merging r))).near false (endpoints_of 0 (map f32 cs)))) n
says (window cs a b c) = let xs = after [] cs in reads xs 0 a && (reads xs 1 b && reads xs 2 c)
says (root x number r) = let a = root_answer (f32 x) in eqb a.number number && eqb (to_bits binary32 a.value) r
says (normal x1 y1 x2 y2 number x y) =
    let a = compute_normal_of (point (f32 x1) (f32 y1)) (point (f32 x2) (f32 y2)) in
    eqb a.number number && (eqb (to_bits binary32 a.x) x && eqb (to_bits binary32 a.y) y)

pub every : List Case → Bool
every [] = true
every (c ∷ cs) = says c && every cs

abbrev ring : List ℕ
ring = begin ∷ line ∷ line ∷ line ∷ line ∷ end_closed ∷ []

abbrev traced : List ℕ
traced = 0 ∷ 0 ∷ 0x41200000 ∷ 0 ∷ 0x41200000 ∷ 0x41200000 ∷ 0x3f666666 ∷ 0 ∷ 0 ∷ 0x3f666666 ∷ []

-- (0,0) to (8,0)
eight : List ℕ
eight = 0 ∷ 0 ∷ 0x41000000 ∷ 0 ∷ []

pub cases : List Case
cases =
    -- P1: no verbs
    mesh (pen 0 0) [] [] 0 0 0 0 0 0
    -- P2: begin, end open, Square
    ∷ mesh (pen 0 1) (begin ∷ end_open ∷ []) (0 ∷ 0 ∷ []) 0 0 0 0 0 0
    -- P3: begin, end closed: Square 4 and 2, Butt 0 and 0
    ∷ mesh (pen 0 1) (begin ∷ end_closed ∷ []) (0 ∷ 0 ∷ []) 4 2 0 0 4 2 ∷ mesh (pen 0 0) (begin ∷ end_closed ∷ []) (0 ∷ 0 ∷ []) 0 0 0 0 0 0
    -- P4: begin and line at (2,0), end open, Square: 4 and 2
    ∷ mesh (pen 0 1) (begin ∷ line ∷ end_open ∷ []) (0x40000000 ∷ 0 ∷ 0x40000000 ∷ 0 ∷ []) 4 2 0 0 4 2
    -- P5: after pushes 1 to 5 the window reads 3, 4, 5; after replacing the last by 9: 3, 4, 9
    ∷ window (push 1 ∷ push 2 ∷ push 3 ∷ push 4 ∷ push 5 ∷ []) 3 4 5 ∷ window (push 1 ∷ push 2 ∷ push 3 ∷ push 4 ∷ push 5 ∷ replace_last 9 ∷ []) 3 4 9
    -- P6: root of 4 is 2; root of 2 has bits 3FB504F3
    ∷ root 0x40800000 0 0x40000000 ∷ root 0x40000000 0 0x3fb504f3
    -- P7: line first: 3, place 0; begin only: 3, place 1
    ∷ mesh (pen 0 0) (line ∷ []) (0 ∷ 0 ∷ []) 0 0 3 0 0 0 ∷ mesh (pen 0 0) (begin ∷ []) (0 ∷ 0 ∷ []) 0 0 3 1 0 0
    -- P8: compute_normal of (1,0) twice is (-0, 1); of (1,0), (-1,0) is (0,0)
    ∷ normal 0x3f800000 0 0x3f800000 0 0 0x80000000 0x3f800000 ∷ normal 0x3f800000 0 0xbf800000 0 0 0 0
    -- P9: (0,1) to (2,1), Butt: 4 and 2; room for three vertices: 6; for four and one triangle: 7
    ∷ mesh (pen 0 0) (begin ∷ line ∷ end_open ∷ []) (0 ∷ 0x3f800000 ∷ 0x40000000 ∷ 0x3f800000 ∷ []) 4 2 0 0 4 2
    ∷ mesh (pen 0 0) (begin ∷ line ∷ end_open ∷ []) (0 ∷ 0x3f800000 ∷ 0x40000000 ∷ 0x3f800000 ∷ []) 3 2 6 0 4 2
    ∷ mesh (pen 0 0) (begin ∷ line ∷ end_open ∷ []) (0 ∷ 0x3f800000 ∷ 0x40000000 ∷ 0x3f800000 ∷ []) 4 1 7 0 4 2
    -- P10: (0,0), (1/128,0): two points kept; (0,0), (1/256,0): one; and what is drawn then
    ∷ keeps 0x3c000000 (0 ∷ 0 ∷ 0x3c000000 ∷ 0 ∷ []) 2 ∷ keeps 0x3c000000 (0 ∷ 0 ∷ 0x3b800000 ∷ 0 ∷ []) 1
    ∷ mesh (pen 0 0) (begin ∷ line ∷ end_open ∷ []) (0 ∷ 0 ∷ 0x3c000000 ∷ 0 ∷ []) 4 2 0 0 4 2
    ∷ mesh (pen 0 0) (begin ∷ line ∷ end_open ∷ []) (0 ∷ 0 ∷ 0x3b800000 ∷ 0 ∷ []) 0 0 0 0 0 0
    -- an option, the verbs and a coordinate all wrong: 1; the coordinate: 4. Too many verbs, 2, are too many to compute over: `many_lines` of path
    ∷ mesh (pen 4 0) (line ∷ []) (0x7fc00000 ∷ 0 ∷ []) 0 0 1 0 0 0
    ∷ mesh (pen 0 0) (begin ∷ end_open ∷ []) (0 ∷ 0x7fc00000 ∷ []) 0 0 4 1 0 0
    -- (0,0), (100,0), (100,100), closed or open: Miter and Bevel
    ∷ mesh (pen 0 0) (begin ∷ line ∷ line ∷ end_open ∷ []) (0 ∷ 0 ∷ 0x42c80000 ∷ 0 ∷ 0x42c80000 ∷ 0x42c80000 ∷ []) 6 4 0 0 6 4
    ∷ mesh (pen 2 0) (begin ∷ line ∷ line ∷ end_open ∷ []) (0 ∷ 0 ∷ 0x42c80000 ∷ 0 ∷ 0x42c80000 ∷ 0x42c80000 ∷ []) 7 5 0 0 7 5
    ∷ mesh (pen 2 0) (begin ∷ line ∷ end_closed ∷ []) (0 ∷ 0 ∷ 0x42c80000 ∷ 0 ∷ []) 8 8 0 0 8 8
    ∷ mesh (pen 0 0) (begin ∷ line ∷ end_closed ∷ []) (0 ∷ 0 ∷ 0x42c80000 ∷ 0 ∷ []) 8 8 0 0 8 8
    -- W-208: the same with MiterClip: 8 and 8, from x = -4 to x = 104; (0,0), (100,0), (0,0.9) open, Miter: 8 and 6
    ∷ mesh (pen 1 0) (begin ∷ line ∷ end_closed ∷ []) (0 ∷ 0 ∷ 0x42c80000 ∷ 0 ∷ []) 8 8 0 0 8 8
    ∷ stands (pen 1 0) (begin ∷ line ∷ end_closed ∷ []) (0 ∷ 0 ∷ 0x42c80000 ∷ 0 ∷ []) 8 8 0 0x42d00000 0x3f800000
    ∷ stands (pen 1 0) (begin ∷ line ∷ end_closed ∷ []) (0 ∷ 0 ∷ 0x42c80000 ∷ 0 ∷ []) 8 8 4 0xc0800000 0xbf800000
    ∷ mesh (pen 0 0) (begin ∷ line ∷ line ∷ end_open ∷ []) (0 ∷ 0 ∷ 0x42c80000 ∷ 0 ∷ 0 ∷ 0x3f666666 ∷ []) 8 6 0 0 8 6
    -- W-201: range 0.15, (0,0), (0.12,0.09): two points kept; range 0.5, (0,0), (0.6,0): two; (0,0), (0.4,0): one
    ∷ keeps 0x3e19999a (0 ∷ 0 ∷ 0x3df5c28f ∷ 0x3db851ec ∷ []) 2 ∷ keeps 0x3f000000 (0 ∷ 0 ∷ 0x3f19999a ∷ 0 ∷ []) 2 ∷ keeps 0x3f000000 (0 ∷ 0 ∷ 0x3ecccccd ∷ 0 ∷ []) 1
    -- W-201: (0,0), (10,0), (10,10), (0.9,0), (0,0.9), closed: 6 and 6 at range 1, 10 and 10 at 1/128
    ∷ mesh (merging 0x3f800000) ring traced 6 6 0 0 6 6 ∷ mesh (merging 0x3c000000) ring traced 10 10 0 0 10 10
    -- W-201: the f32 before 1/128, the f32 after 1, a NaN: 1
    ∷ mesh (merging 0x3bffffff) [] [] 0 0 1 0 0 0 ∷ mesh (merging 0x3f800001) [] [] 0 0 1 0 0 0 ∷ mesh (merging 0x7fc00000) [] [] 0 0 1 0 0 0
    -- W-213: (0,0), (4,0), (4,4), dashes 4: the cut at (4,0) ends the dash and begins the gap. (0,0) to (8,0): by 8 no cut falls on it, by 4 one, by 3 two
    ∷ dashed (pen 0 0) 0 (0x40800000 ∷ []) (begin ∷ line ∷ line ∷ end_open ∷ []) (0 ∷ 0 ∷ 0x40800000 ∷ 0 ∷ 0x40800000 ∷ 0x40800000 ∷ []) 0 4 2
    ∷ dashed (pen 0 0) 0 (0x41000000 ∷ []) (begin ∷ line ∷ end_open ∷ []) eight 0 4 2 ∷ dashed (pen 0 0) 0 (0x40800000 ∷ []) (begin ∷ line ∷ end_open ∷ []) eight 0 4 2
    ∷ dashed (pen 0 0) 0 (0x40400000 ∷ []) (begin ∷ line ∷ end_open ∷ []) eight 0 8 4
    -- (0,0), (4,0), (4,3), closed, dashes 16 and 1/4: no cut, one open run from p0 to p0
    ∷ dashed (pen 0 0) 0 (0x41800000 ∷ 0x3e800000 ∷ []) (begin ∷ line ∷ line ∷ end_closed ∷ []) (0 ∷ 0 ∷ 0x40800000 ∷ 0 ∷ 0x40800000 ∷ 0x40400000 ∷ []) 0 8 6
    -- (0,0), closed, Square, dashes 3, offset 4: rule 2, though p0 is in a gap. Dashes 1/4 and 7.75 with merge range 1/2, Square: a dash left with one point is nothing
    ∷ dashed (pen 0 1) 0x40800000 (0x40400000 ∷ []) (begin ∷ end_closed ∷ []) (0 ∷ 0 ∷ []) 0 4 2
    ∷ dashed (record { join = 0; cap = 1; merge = 0x3f000000 }) 0 (0x3e800000 ∷ 0x40f80000 ∷ []) (begin ∷ line ∷ end_open ∷ []) eight 0 0 0
    -- an offset of -1 is refused also where there are no dashes, and a length below 1/4
    ∷ dashed (pen 0 0) 0xbf800000 [] [] [] 1 0 0 ∷ dashed (pen 0 0) 0 (0x3e7fffff ∷ []) [] [] 1 0 0 ∷ []

-- what the checker opens to compute them
arithmetic : Unit {0}
unfolding count_leading_zeros add sub mul div neg lt eq ne le of_bits to_bits floor_root parts_root bits_root root_of
arithmetic = tt

vectors : Unit {0}
unfolding plus_of minus_of times_of divided_of negated_of turned_of dot_of cross_of square_length_of length_of normalize_of normal_of
vectors = tt

joins : Unit {0}
unfolding single_of pair_of zero_of cut_of side_line_of unmoved_of moved_of clipped_of edge_side_of edge_of corner_of inward_of min_of past_of overshoots_of folded_of folds_of too_long exceeded_of tip_of kind_of decided_of tip_point_of clipped_pair_of join_side_of turn_of inner_join_of side_positions_of
joins = tt

vertices : Unit {0}
unfolding base_vertex_of side_vertices_of cap_vertex_of cap_pair_of cap_vertices_of vertex_of triangle_of
vertices = tt

paths : Unit {0}
unfolding coordinate_in first_outside within line_join_of line_cap_of in_range prepared_of stroke_of pattern_in lengths_in length_in offset_in is_round malformed checked_of cut_checked_of has_too_many_cuts runs_cuts cut_count cut_runs cut_run lines_of runs_from names placed first_misplaced ends_inside named point_count endpoints_of
paths = tt

dashes : Unit {0}
unfolding even_of length_at is_dash worn_from first_cut next_cut falls_on cut_point passed_of spot_of cuts_on behind cut_marks marks_from marks_of dashes_from dashes_of
dashes = tt

runs : Unit {0}
unfolding data_of unworked_of joint_of cap_of start_cap_of end_cap_of joints_from joints_of near_of kept_behind all_near trimmed kept_points leg_of next_leg_of
runs = tt

meshes : Unit {0}
unfolding vertex_count joint_vertices_of vertices_of sections flat different tri_of between strip_of through shape_of shape_count shape_vertices shape_triangles mesh_vertices mesh_count mesh_triangles accepted_of stroked_of outcome_of over
meshes = tt

pub worked : every cases ≡ true
unfolding every says has_bits cases eight reads after got_of last_three last_replaced compute_normal_of in_domain arithmetic vectors joins vertices paths dashes runs meshes
worked = refl

-- the program's example, `M0 1L2 1`: its four vertices, with their normals and advancements, and its triangles
pub line_example : Outcome
line_example = outcome_of (begin ∷ line ∷ end_open ∷ []) (map f32 (0 ∷ 0x3f800000 ∷ 0x40000000 ∷ 0x3f800000 ∷ [])) (options_of (pen 0 0)) [] (lent (replicate 20 (f32 0)) (replicate 5 9) (replicate 7 9))

pub written : map (to_bits binary32) line_example.lists.vertices ≡ 0 ∷ 0x40000000 ∷ 0 ∷ 0x3f800000 ∷ 0
    ∷ 0 ∷ 0 ∷ 0 ∷ 0xbf800000 ∷ 0
    ∷ 0x40000000 ∷ 0x40000000 ∷ 0 ∷ 0x3f800000 ∷ 0x40000000
    ∷ 0x40000000 ∷ 0 ∷ 0 ∷ 0xbf800000 ∷ 0x40000000 ∷ []
unfolding line_example arithmetic vectors joins vertices paths runs meshes
written = refl

-- where they came from; the fifth record was not asked for, and is left as it was
pub sourced : line_example.lists.sources ≡ 0 ∷ 1 ∷ 2 ∷ 3 ∷ 9 ∷ []
unfolding line_example arithmetic vectors joins vertices paths runs meshes
sourced = refl

-- the seventh number was not asked for, and is left as it was
pub faced : line_example.lists.triangles ≡ 1 ∷ 0 ∷ 2 ∷ 1 ∷ 2 ∷ 3 ∷ 9 ∷ []
unfolding line_example arithmetic vectors joins vertices paths runs meshes
faced = refl

-- W-213: `M0 0L8 0`, dashes 3: each dash's advancement begins at 0, and the second one's points are cut from the edge that endpoint 0 begins
pub dashed_example : Outcome
dashed_example = outcome_of (begin ∷ line ∷ end_open ∷ []) (map f32 eight) (options_of (pen 0 0)) (map f32 (0x40400000 ∷ [])) (lent (replicate 40 (f32 0)) (replicate 8 9) (replicate 12 9))

pub dashed_written : map (to_bits binary32) dashed_example.lists.vertices ≡ 0 ∷ 0x3f800000 ∷ 0 ∷ 0x3f800000 ∷ 0
    ∷ 0 ∷ 0xbf800000 ∷ 0 ∷ 0xbf800000 ∷ 0
    ∷ 0x40400000 ∷ 0x3f800000 ∷ 0 ∷ 0x3f800000 ∷ 0x40400000
    ∷ 0x40400000 ∷ 0xbf800000 ∷ 0 ∷ 0xbf800000 ∷ 0x40400000
    ∷ 0x40c00000 ∷ 0x3f800000 ∷ 0 ∷ 0x3f800000 ∷ 0
    ∷ 0x40c00000 ∷ 0xbf800000 ∷ 0 ∷ 0xbf800000 ∷ 0
    ∷ 0x41000000 ∷ 0x3f800000 ∷ 0 ∷ 0x3f800000 ∷ 0x40000000
    ∷ 0x41000000 ∷ 0xbf800000 ∷ 0 ∷ 0xbf800000 ∷ 0x40000000 ∷ []
unfolding dashed_example eight arithmetic vectors joins vertices paths dashes runs meshes
dashed_written = refl

pub dashed_faced : dashed_example.lists.triangles ≡ 1 ∷ 0 ∷ 2 ∷ 1 ∷ 2 ∷ 3 ∷ 5 ∷ 4 ∷ 6 ∷ 5 ∷ 6 ∷ 7 ∷ []
unfolding dashed_example eight arithmetic vectors joins vertices paths dashes runs meshes
dashed_faced = refl

-- W-209: `M0 0L8 0`, width 2, Round cap, k = 1
pub round_example : Outcome
round_example =
    outcome_of (begin ∷ line ∷ end_open ∷ []) (map f32 (0 ∷ 0 ∷ 0x41000000 ∷ 0 ∷ []))
    (record { width = f32 0x40000000; miter_limit = f32 0x40800000; line_join = 0; cap = 2; merge_range = f32 0x3c000000; detail = 1; offset = f32 0 })
    [] (lent (replicate 50 (f32 0)) (replicate 11 99) (replicate 25 99))

arcs : Unit {0}
unfolding level_of round_of middle_of arc_normals arc_triangles arc_vertex_of arc_vertices normal_at first_normal last_normal hub_of gets_arc side_weft start_fan end_fan then edge_faces due_weft arcs_weft end_weft bend_weft woven_from bends_from bends_of woven_of arc_sides step_of steps_of step_triangles
arcs = tt

-- the strip's four vertices and two triangles, and behind the edge three of each for each cap
pub round_sources : round_example.lists.sources ≡ 0 ∷ 1 ∷ 2 ∷ 3 ∷ 0 ∷ 1 ∷ 0 ∷ 2 ∷ 2 ∷ 2 ∷ 99 ∷ []
unfolding round_example arithmetic vectors joins vertices paths runs meshes arcs
round_sources = refl

pub round_faces : round_example.lists.triangles
    ≡ 1 ∷ 0 ∷ 2 ∷ 1 ∷ 2 ∷ 3 ∷ 1 ∷ 4 ∷ 0 ∷ 1 ∷ 5 ∷ 4 ∷ 4 ∷ 6 ∷ 0 ∷ 2 ∷ 7 ∷ 3 ∷ 2 ∷ 8 ∷ 7 ∷ 7 ∷ 9 ∷ 3 ∷ 99 ∷ []
unfolding round_example arithmetic vectors joins vertices paths runs meshes arcs
round_faces = refl
