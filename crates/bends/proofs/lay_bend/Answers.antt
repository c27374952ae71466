-- `bends::lay_bend` meets its contract. Assumes nothing.
use Rattle.strip.specs.Strip.{next_of}
use Rattle.bends.proofs.Writing.{edge_fits, due_fits, own_fits, arcs_fits, end_fits, bend_passes, near_fit}
use Rattle.bends.proofs.lay_bend.Goals as goal

pub before-s-requires : goal.before-s-requires
before-s-requires c = rw c.next_vertex-next.ensures c.requires.numbers

pub after-e-requires : goal.after-e-requires
after-e-requires c = rw c.next_vertex-next.ensures c.requires.numbers

pub lay_edge-edge-requires : goal.lay_edge-edge-requires
lay_edge-edge-requires c =
    let is = rw c.next_vertex-next.ensures at c.before-s.ensures in
    let ie = rw c.next_vertex-next.ensures at c.after-e.ensures in
    edge_fits c.args.o c.args.r c.args.w c.args.b is ie c.requires.fits

pub lay_due-due-requires : goal.lay_due-due-requires
lay_due-due-requires c =
    let is = rw c.next_vertex-next.ensures at c.before-s.ensures in
    let ie = rw c.next_vertex-next.ensures at c.after-e.ensures in
    record { id_lt_id_limit = c.requires.from; weft_fits = due_fits c.args.o c.args.r c.args.w c.args.b is ie c.requires.fits c.lay_edge-edge.ensures }

pub lay_between-own-requires : goal.lay_between-own-requires
lay_between-own-requires c =
    let is = rw c.next_vertex-next.ensures at c.before-s.ensures in
    let ie = rw c.next_vertex-next.ensures at c.after-e.ensures in
    own_fits c.args.o c.args.r c.args.w c.args.b is ie c.requires.fits c.lay_edge-edge.ensures c.lay_due-due.ensures

pub lay_arcs-arcs-requires : goal.lay_arcs-arcs-requires
lay_arcs-arcs-requires c =
    let is = rw c.next_vertex-next.ensures at c.before-s.ensures in
    let ie = rw c.next_vertex-next.ensures at c.after-e.ensures in
    let near = near_fit _ (next_of c.args.w.strip) c.args.b.joint is c.requires.numbers in
    record { positive_bound = (near.0, near.1, c.requires.joint); weft_fits = arcs_fits c.args.o c.args.r c.args.w c.args.b is ie c.requires.fits c.lay_edge-edge.ensures c.lay_due-due.ensures c.lay_between-own.ensures }

pub lay_end-requires : goal.lay_end-requires
lay_end-requires c =
    let is = rw c.next_vertex-next.ensures at c.before-s.ensures in
    let ie = rw c.next_vertex-next.ensures at c.after-e.ensures in
    record { id_lt_id_limit = c.requires.joint; weft_fits = end_fits c.args.o c.args.r c.args.w c.args.b is ie c.requires.fits c.lay_edge-edge.ensures c.lay_due-due.ensures c.lay_between-own.ensures c.lay_arcs-arcs.ensures }

pub returns : goal.returns
returns c =
    let is = rw c.next_vertex-next.ensures at c.before-s.ensures in
    let ie = rw c.next_vertex-next.ensures at c.after-e.ensures in
    bend_passes c.args.o c.args.r c.args.w c.args.b is ie c.requires.fits c.lay_edge-edge.ensures c.lay_due-due.ensures c.lay_between-own.ensures c.lay_arcs-arcs.ensures c.lay_end.ensures
