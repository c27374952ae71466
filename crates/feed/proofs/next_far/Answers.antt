-- `feed::next_far` meets its contract. The plan: as long as no point was far, what is kept behind a is what is kept of the points from j on; a point that is near
-- (`told`) leaves that so, and one that is not ends the look. Assumes nothing.
use Prim.Native.Nat.{◌+◌, ◌*◌, ◌/◌, ◌≤◌}
use mathlib.Core.Path.{◌≡◌, sym, ◌∙◌}
use native.Mathlib.Omega.{arith}
use lib.ListN.{length}
use Rattle.kept.specs.Kept.{near}
use Rattle.kept.specs.Points.{endpoint_at}
use Rattle.kept.proofs.Indexed.{points_at}
use Rattle.kept.proofs.Further.{keep_near}
use Rattle.feed.proofs.next_far.Goals.{After-is_near}
use Rattle.feed.proofs.next_far.Goals as goal

-- the answer of `is_near`, told of the definitions
told : (c : After-is_near) → let a = c.args in
    near a.near a.a (endpoint_at a.p.coords.now a.p.first.0 c.loop-j.j) ≡ c.is_near.result
told c = rw c.at.ensures at (sym c.is_near.ensures)

pub returns-then-not-is_near : goal.returns-then-not-is_near
returns-then-not-is_near c =
    (record { within = omega arith; kept = c.loop-j.invariant; far = λ h. told (goal.at.returns-then-not-is_near c).After-is_near ∙ c.if-not-is_near.true }, omega arith)

pub loop-j-preserved : goal.loop-j-preserved
loop-j-preserved c =
    let l = c.loop-j in
    let a = c.args in
    let h : 2 * l.j + 2 ≤ length a.p.coords.now = omega arith in
    l.invariant ∙ rw (points_at a.p.coords.now a.p.first.0 l.j h) (keep_near _ _ _ _ (told (goal.at.loop-j-preserved c).After-is_near ∙ c.if-not-is_near.false))

pub returns : goal.returns
returns c =
    let end : c.loop-j.j ≡ length c.args.p.coords.now / 2 = omega (arith, c.requires) in
    record { within = omega arith; kept = rw end at c.loop-j.invariant; far = λ h. absurd (omega arith) }
