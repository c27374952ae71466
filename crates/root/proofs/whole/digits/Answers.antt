-- `root::whole::digits` meets its contract. Assumes nothing.
use Rattle.root.proofs.Digits.{start, after}
use Rattle.root.proofs.whole.digits.Goals as goal

pub loop-place-init : goal.loop-place-init
loop-place-init c = start _ c.requires

pub digit-w-requires : goal.digit-w-requires
digit-w-requires c = (_, after c.loop-place-test.true c.loop-place.invariant)
