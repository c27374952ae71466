-- `values::known::taken` meets its contract. Assumes nothing.
use mathlib.Core.Path.{sym, ◌∙◌}
use Rattle.form.proofs.Bytes.{digit_from}
use Rattle.values.proofs.known.taken.Goals as goal

pub digit_taken-requires : goal.digit_taken-requires
digit_taken-requires c = digit_from c.args.b (sym c.requires ∙ c.in-Digit.is)
