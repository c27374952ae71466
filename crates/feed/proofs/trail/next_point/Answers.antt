-- `feed::trail::next_point` meets its contract. Assumes nothing.
use mathlib.Core.Logic.{inl, inr}
use mathlib.Core.Path.{◌≡◌, refl, sym, ◌∙◌}
use Rattle.std.specs.Prelude.{None}
use Rattle.feed.proofs.Trailing.{going_near, going_far, going_end}
use Rattle.feed.proofs.trail.next_point.Goals.{in-Cut, in-Corner}
use Rattle.feed.proofs.trail.next_point.Goals as goal

pub returns-then-not-is_near : goal.returns-then-not-is_near
returns-then-not-is_near c =
    let l = c.loop-t in
    let far = sym c.is_near.ensures ∙ c.if-not-is_near.true in
    elim c.match-m.branch [
      | in-Cut w ↦ rw (w.t-is, w.q-is) (going_far _ _ _ _ _ _ l.invariant _ c.loop-t-test.true c.in-Some.is _ c.next_fed-m.ensures _ _ (inl (w.in-Cut.is, refl)) (rw (w.t-is, w.q-is) at far))
      | in-Corner w ↦ rw (w.t-is, w.q-is) (going_far _ _ _ _ _ _ l.invariant _ c.loop-t-test.true c.in-Some.is _ c.next_fed-m.ensures _ _ (inr (w.in-Corner.is, c.loop-t-test.true)) (rw (w.t-is, w.q-is) at far))
    ]

pub loop-t-preserved : goal.loop-t-preserved
loop-t-preserved c =
    let l = c.loop-t in
    let near = sym c.is_near.ensures ∙ c.if-not-is_near.false in
    elim c.match-m.branch [
      | in-Cut w ↦ rw w.t-is (going_near _ _ _ _ _ _ l.invariant _ c.loop-t-test.true c.in-Some.is _ c.next_fed-m.ensures _ _ (inl (w.in-Cut.is, refl)) (rw (w.t-is, w.q-is) at near))
      | in-Corner w ↦ rw w.t-is (going_near _ _ _ _ _ _ l.invariant _ c.loop-t-test.true c.in-Some.is _ c.next_fed-m.ensures _ _ (inr (w.in-Corner.is, c.loop-t-test.true)) (rw (w.t-is, w.q-is) at near))
    ]

pub returns-after-loop-t : goal.returns-after-loop-t
returns-after-loop-t c = going_end _ _ _ _ _ _ c.loop-t.invariant (inl c.loop-t-test.false)

pub returns-in-loop-t : goal.returns-in-loop-t
returns-in-loop-t c = let ends : c.loop-t.t.feed ≡ None = cc in going_end _ _ _ _ _ _ c.loop-t.invariant (inr ends)
