-- `root::whole::nearest` meets its contract. Assumes nothing.
use Rattle.root.proofs.Digits.{up, down}
use Rattle.root.proofs.whole.nearest.Goals as goal

pub returns-then-rest-s : goal.returns-then-rest-s
returns-then-rest-s c = up _ _ c.digits-w.ensures c.requires c.if-rest-s.true

pub returns-else-rest-s : goal.returns-else-rest-s
returns-else-rest-s c = down _ _ c.digits-w.ensures c.requires c.if-rest-s.false
