-- `page::put_page` meets its contract. Assumes nothing.
use borrow.Author.Tests.{eq-eqb, ne_eqb}
use mathlib.Core.Path.{sym}
use native.Mathlib.Omega.{arith}
use lib.Seq.{length-take-le}
use Rattle.page.proofs.Laws.{read_within, long_refused, read_refused, read_stroked}
use Rattle.page.proofs.put_page.Goals as goal

pub returns-then-text-gt-TEXT_ROOM : goal.returns-then-text-gt-TEXT_ROOM
returns-then-text-gt-TEXT_ROOM c = record { puts_page = long_refused (omega (arith, c.if-text-gt-TEXT_ROOM.true)) c.put_refused.ensures.puts; upper_bound = c.put_refused.ensures.upper_bound }

pub returns-then-a-ne0 : goal.returns-then-a-ne0
returns-then-a-ne0 c =
    let a = c.from-a in
    let p = c.put_refused-then-a-ne0 in
    record { puts_page = read_refused c.if-text-gt-TEXT_ROOM.false c.read.ensures a.ensures (ne_eqb a.result.number 0 c.if-a-ne0.true) p.ensures.puts; upper_bound = p.ensures.upper_bound }

pub slice_bounds-verbs-end : goal.slice_bounds-verbs-end
slice_bounds-verbs-end c =
    let r = c.read in
    let w = read_within r.ensures c.from-a.ensures c.if-a-ne0.false in
    omega (arith, w.0, r.auto.verbs)

pub slice_bounds-put_stroked-end : goal.slice_bounds-put_stroked-end
slice_bounds-put_stroked-end c =
    let r = c.read in
    let w = read_within r.ensures c.from-a.ensures c.if-a-ne0.false in
    sym (length-take-le c.from-a.result.verbs r.new.verbs (omega (arith, w.0, r.auto.verbs)))

pub slice_bounds-coords-end : goal.slice_bounds-coords-end
slice_bounds-coords-end c =
    let r = c.read in
    let w = read_within r.ensures c.from-a.ensures c.if-a-ne0.false in
    omega (arith, w.1, r.auto.coords)

pub slice_bounds-put_stroked-end-2 : goal.slice_bounds-put_stroked-end-2
slice_bounds-put_stroked-end-2 c =
    let r = c.read in
    let w = read_within r.ensures c.from-a.ensures c.if-a-ne0.false in
    sym (length-take-le c.from-a.result.coords r.new.coords (omega (arith, w.1, r.auto.coords)))

pub returns : goal.returns
returns c =
    let a = c.from-a in
    let p = c.put_stroked in
    record { puts_page = read_stroked c.if-text-gt-TEXT_ROOM.false c.read.ensures a.ensures (eq-eqb a.result.number 0 c.if-a-ne0.false) p.ensures.puts; upper_bound = p.ensures.upper_bound }
