-- `vertices::base::put_side` meets its contract. Assumes nothing.
use mathlib.Core.Path.{refl, ap}
use native.Mathlib.Omega.{arith}
use Rattle.endpoint.specs.Endpoint.{side_count_of}
use Rattle.lists.specs.Over.{flat}
use Rattle.lists.proofs.Parts.{behind}
use Rattle.vertices.specs.Base.{side_vertices_of}
use Rattle.vertices.proofs.base.put_side.Goals as goal

pub returns-in-Single : goal.returns-in-Single
unfolding side_vertices_of flat
returns-in-Single c = record { v_after = rw c.in-Single.is c.put_base_vertex.ensures.v_after; src_after = rw c.in-Single.is c.put_base_vertex.ensures.src_after }

pub returns-in-Pair : goal.returns-in-Pair
unfolding side_vertices_of flat
returns-in-Pair c =
    let two = ap side_count_of c.in-Pair.is in
    let one = c.put_base_vertex-in-Pair.ensures in
    let second = c.put_base_vertex-in-Pair-2.ensures in
    record { v_after = rw c.in-Pair.is (behind _ _ _ _ _ 5 refl (omega (arith, two, c.requires)) one.v_after second.v_after); src_after = rw c.in-Pair.is (behind _ _ _ _ _ 1 refl (omega (arith, two, c.requires)) one.src_after second.src_after) }
