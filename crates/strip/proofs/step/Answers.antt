-- `strip::step` meets its contract. Assumes nothing.
use mathlib.Core.Bool.{cond}
use mathlib.Core.Path.{◌≡◌}
use Rattle.strip.specs.Strip.{stepped_of}
use Rattle.strip.proofs.step.Goals.{then-s, else-s}
use Rattle.strip.proofs.step.Goals as goal

pub returns : goal.returns
unfolding stepped_of
returns c =
    let first : c.if-s.result ≡ cond c.args.s.begun c.args.s.first (record { negative = c.vertex_after.result; positive = c.next_vertex-next.result }) =
    elim c.if-s.branch [ then-s w ↦ rw (w.if-s.true, w.result-is) | else-s w ↦ rw (w.if-s.false, w.result-is) ] in
    rw (first, c.vertex_after-3.ensures, c.vertex_after-2.ensures, c.more_triangles.ensures, c.vertex_after.ensures, c.next_vertex-next.ensures)
