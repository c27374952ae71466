-- `lines::prints::put_digits` meets its contract. The loop's invariant is `Putting`: what was to be put is still to be put. Assumes nothing.
use native.Mathlib.Omega.{arith}
use native.Mathlib.Nat.{mod-lt}
use Rattle.lines.proofs.Placing.{putting_starts, putting_goes, putting_ends}
use Rattle.lines.proofs.prints.put_digits.Goals as goal

pub loop-i-init : goal.loop-i-init
loop-i-init c = putting_starts c.args.base c.args.k c.args.n c.args.out.now c.requires.2

pub glyph-requires : goal.glyph-requires
glyph-requires c = omega (arith, mod-lt c.loop-i.rest {m = c.args.base} c.requires.0)

pub bounds-out-i : goal.bounds-out-i
bounds-out-i c = omega (arith, c.loop-i.invariant.inside)

pub loop-i-preserved : goal.loop-i-preserved
loop-i-preserved c = putting_goes c.loop-i.invariant c.glyph.result c.loop-i-test.true c.glyph.ensures

pub shape_of-out : goal.shape_of-out
shape_of-out c = c.loop-i.invariant.same

pub returns : goal.returns
returns c = putting_ends c.loop-i.invariant c.loop-i-test.false
