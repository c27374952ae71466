-- `runs::draw_ended` meets its contract. Assumes nothing.
use Prim.Native.Nat.{◌+◌, ◌<◌}
use native.Mathlib.Omega.{arith}
use Rattle.endpoint.specs.Endpoint.{id_limit}
use Rattle.pieces.specs.Piece.{next_vertex}
use Rattle.kept.proofs.Indexed.{points_part}
use Rattle.runs.proofs.Drawing.{part_fits, part_few, part_puts, part_cuts}
use Rattle.runs.proofs.draw_ended.Goals.{After-draw_cut-run}
use Rattle.runs.proofs.draw_ended.Goals as goal

few : (c : After-draw_cut-run) → let k = c.args.g.place in (next_vertex k + c.draw_cut-run.result.vertices < id_limit) × (k.triangles + c.draw_cut-run.result.triangles < id_limit)
few c =
    part_few _ _ c.args.g c.args.verb _ c.requires.verb_value c.place_of-a.ensures c.place_of-b.ensures c.place_of-c.ensures c.next_vertex.ensures (points_part _ _ _) c.requires.fits c.draw_cut-run.ensures

pub draw_cut-run-requires-clause-cuts_few : goal.draw_cut-run-requires-clause-cuts_few
draw_cut-run-requires-clause-cuts_few c =
    part_cuts c.args.stroke _ c.args.g c.args.verb _ c.requires.verb_value (points_part _ _ _) c.requires.cuts_few

pub draw_cut-run-requires-clause-fits : goal.draw_cut-run-requires-clause-fits
draw_cut-run-requires-clause-fits c =
    part_fits _ _ c.args.g c.args.verb _ c.requires.verb_value c.place_of-a.ensures c.place_of-b.ensures c.place_of-c.ensures c.next_vertex.ensures (points_part _ _ _) c.requires.fits

pub overflow_add-result : goal.overflow_add-result
overflow_add-result c = omega (arith, few (goal.at.overflow_add-result c).After-draw_cut-run)

pub overflow_add-result-2 : goal.overflow_add-result-2
overflow_add-result-2 c = omega (arith, few (goal.at.overflow_add-result-2 c).After-draw_cut-run)

pub returns : goal.returns
returns c =
    part_puts _ _ c.args.g c.args.verb _ c.requires.verb_value c.place_of-a.ensures c.place_of-b.ensures c.place_of-c.ensures c.next_vertex.ensures (points_part _ _ _) c.requires.fits c.draw_cut-run.ensures
