-- `root::whole::digits` meets its contract. Assumes nothing.
use Rattle.root.specs.Steps.{Digits}
use Rattle.root.proofs.whole.digits.Given as goal

abbrev pub invariant-loop-place : goal.invariant-loop-place
invariant-loop-place l = Digits l.n l.w l.place
