-- `reader::read` meets its contract. Assumes nothing.
use mathlib.Core.Path.{refl, ap}
use Rattle.std.proofs.lemmas.Result.{err_from_is_err_and}
use Rattle.reader.specs.Pass.{Passed}
use Rattle.reader.specs.Reads.{too_long}
use Rattle.reader.proofs.Meets.{read_written, read_refused, not_path}
use Rattle.reader.proofs.read.Goals as goal

pub returns-then-text-gt-TEXT_LIMIT : goal.returns-then-text-gt-TEXT_LIMIT
returns-then-text-gt-TEXT_LIMIT c = too_long c.if-text-gt-TEXT_LIMIT.true

pub returns-in_err-size : goal.returns-in_err-size
returns-in_err-size c =
    let p = err_from_is_err_and c.from_residual.result c.from_residual.ensures.1 in
    rw (p.1, p.2) (read_refused _ _ _ _ _ c.if-text-gt-TEXT_LIMIT.false (ap (λ (w : Passed). w.passage) c.through-p.ensures) c.in_err-size.ensures (not_path _))

pub returns : goal.returns
returns c = read_written _ _ _ _ _ c.if-text-gt-TEXT_LIMIT.false (ap (λ (w : Passed). w.passage) c.through-p.ensures) c.in_ok-size.ensures _ refl c.through.ensures
