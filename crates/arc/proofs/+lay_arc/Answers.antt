-- `arc::lay_arc` meets its contract. At each call `split` says that the arc is its middle and two halves. Assumes nothing.
use mathlib.Core.Path.{ap}
use Prim.Native.Nat.{◌-◌}
use native.Mathlib.Omega.{arith}
use Rattle.endpoint.specs.declared.VertexId.{VertexId}
use Rattle.pieces.specs.Piece.{next_vertex}
use Rattle.pieces.proofs.Pieces.{puts_none}
use Rattle.arc.specs.Arc.{arc_normals, arc_vertices, arc_triangles}
use Rattle.arc.specs.declared.End.{End}
use Rattle.arc.proofs.Writing.{middle_fits, first_fits, second_fits, fan_passes, arc_halves}
use Rattle.arc.proofs.+lay_arc.Goals as goal

pub returns-then-level-eq0 : goal.returns-then-level-eq0
unfolding arc_vertices arc_normals arc_triangles
returns-then-level-eq0 t c = rw c.if-level-eq0.true puts_none

pub lay_middle-first-requires : goal.lay_middle-first-requires
lay_middle-first-requires t c =
    let a = c.args in
    let mid : End = record { vertex = c.next_vertex.result; normal = c.middle.result } in
    let split = arc_halves (next_vertex a.k) a.hub a.a a.b mid (ap (λ (x : VertexId). x.0) c.next_vertex.ensures) c.middle.ensures a.level c.if-level-eq0.false in
    record { vertex_value = ap (λ (x : VertexId). x.0) c.next_vertex.ensures; fits = middle_fits a.k a.hub a.hub a.a a.b mid (a.level - 1) (rw split at c.requires) }

pub lay_arc-second-requires : goal.lay_arc-second-requires
lay_arc-second-requires t c =
    let a = c.args in
    let mid : End = record { vertex = c.next_vertex.result; normal = c.middle.result } in
    let split = arc_halves (next_vertex a.k) a.hub a.a a.b mid (ap (λ (x : VertexId). x.0) c.next_vertex.ensures) c.middle.ensures a.level c.if-level-eq0.false in
    (omega arith, first_fits a.k a.hub a.hub a.a a.b mid (a.level - 1) (rw split at c.requires) c.lay_middle-first.ensures)

pub lay_arc-requires : goal.lay_arc-requires
lay_arc-requires t c =
    let a = c.args in
    let mid : End = record { vertex = c.next_vertex.result; normal = c.middle.result } in
    let split = arc_halves (next_vertex a.k) a.hub a.a a.b mid (ap (λ (x : VertexId). x.0) c.next_vertex.ensures) c.middle.ensures a.level c.if-level-eq0.false in
    (omega arith, second_fits a.k a.hub a.hub a.a a.b mid (a.level - 1) (rw split at c.requires) c.lay_middle-first.ensures c.lay_arc-second.ensures)

pub returns : goal.returns
returns t c =
    let a = c.args in
    let mid : End = record { vertex = c.next_vertex.result; normal = c.middle.result } in
    let split = arc_halves (next_vertex a.k) a.hub a.a a.b mid (ap (λ (x : VertexId). x.0) c.next_vertex.ensures) c.middle.ensures a.level c.if-level-eq0.false in
    rw split (fan_passes a.k a.hub a.hub a.a a.b mid (a.level - 1) (rw split at c.requires) c.lay_middle-first.ensures c.lay_arc-second.ensures c.lay_arc.ensures)
