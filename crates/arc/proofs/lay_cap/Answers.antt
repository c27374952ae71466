-- `arc::lay_cap` meets its contract: its middle and two arcs, as in `lay_arc`. Assumes nothing.
use Rattle.arc.specs.Arc.{recorded}
use Rattle.arc.specs.declared.End.{End}
use Rattle.arc.proofs.Writing.{second_fits, fan_passes}
use Rattle.arc.proofs.lay_cap.Goals as goal

pub lay_arc-requires : goal.lay_arc-requires
lay_arc-requires c =
    let near = recorded c.args.hub c.args.source in
    let nv = c.next_vertex in
    let mid : End = record { vertex = nv.result; normal = c.args.hub.ahead } in
    second_fits c.args.k near c.args.hub c.args.a c.args.b mid c.args.level (rw nv.ensures c.requires) c.lay_middle-first.ensures c.lay_arc-second.ensures

pub returns : goal.returns
returns c =
    let near = recorded c.args.hub c.args.source in
    let nv = c.next_vertex in
    let mid : End = record { vertex = nv.result; normal = c.args.hub.ahead } in
    rw nv.ensures at (fan_passes c.args.k near c.args.hub c.args.a c.args.b mid c.args.level (rw nv.ensures c.requires) c.lay_middle-first.ensures c.lay_arc-second.ensures c.lay_arc.ensures)
