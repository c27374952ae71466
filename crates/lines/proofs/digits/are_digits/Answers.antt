-- `lines::digits::are_digits` meets its contract. Assumes nothing.
use mathlib.Core.Path.{◌∙◌}
use Rattle.std.proofs.Common.{nat_lt, rules, tests}
use Rattle.std.proofs.lemmas.Iterator.{YieldsList-from_slice}
use Rattle.std.proofs.lemmas.Iterator.Search.{all_from_yields_List}
use Rattle.lines.specs.Digits.{digit_of}
use Rattle.lines.proofs.Pairs.{digit_told, all_digits}
use Rattle.lines.proofs.digits.are_digits.Goals as goal

pub returns : goal.returns
returns c =
    all_from_yields_List (λ b. nat_lt (digit_of b) c.args.base) _ _ c.all.result c.all.ensures.ran (YieldsList-from_slice c.args.word.now cc) (λ x b q k. search (rules, tests, digit_told))
    ∙ all_digits c.args.base c.args.word.now
