-- `strip::joint::put_vertices` meets its contract. The plan: the positive side's vertices at the start, the negative side's in the parts behind them, whose place the count gives. Assumes nothing.
use mathlib.Core.Path.{refl, sym, ◌∙◌}
use native.Mathlib.Omega.{arith}
use Rattle.endpoint.specs.declared.Side.TheVariants.{Positive, Negative}
use Rattle.pieces.specs.Piece.{floats_of}
use Rattle.vertices.specs.Base.{side_vertices_of}
use Rattle.vertices.proofs.Laws.{length_side}
use Rattle.strip.specs.Joint.{joint_vertices_of}
use Rattle.strip.proofs.Writing.{spelt_behind, sources_behind}
use Rattle.strip.proofs.joint.put_vertices.Goals as goal

pub returns : goal.returns
unfolding joint_vertices_of
returns c =
    let j = c.args.j in
    let many = c.positive_count-n.ensures ∙ sym (length_side j Positive j.positive) in
    let xs = side_vertices_of j Positive j.positive in
    let ys = side_vertices_of j Negative j.negative in
    let one = c.add_join_base_vertices.ensures in
    let two = c.add_join_base_vertices-2.ensures in
    record { v_after = spelt_behind floats_of 5 (λ x. refl) xs ys _ _ _ _ (omega (arith, many, c.requires)) many one.v_after two.v_after; src_after = sources_behind xs ys _ _ _ _ (omega (arith, many, c.requires)) many one.src_after two.src_after }
