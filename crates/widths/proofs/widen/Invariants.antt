-- `widths::widen` meets its contract: a number is the same in either width. Assumes nothing.
use Rattle.widths.proofs.widen.Given as goal

abbrev pub ghost-put : goal.ghost-put
ghost-put a = λ x. x
