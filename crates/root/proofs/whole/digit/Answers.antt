-- `root::whole::digit` meets its contract. Assumes nothing.
use Rattle.root.proofs.Digits.{word_one, word_zero}
use Rattle.root.proofs.whole.digit.Goals as goal

pub returns-then-t-one : goal.returns-then-t-one
returns-then-t-one c = λ n D. word_one n _ _ D c.if-t-one.true

pub returns-else-t-one : goal.returns-else-t-one
returns-else-t-one c = λ n D. word_zero n _ _ D c.if-t-one.false
