-- `widths::narrow` meets its contract: a number is the same in either width. Assumes nothing.
use Rattle.widths.proofs.narrow.Given as goal

abbrev pub ghost-put : goal.ghost-put
ghost-put a = λ x. x
