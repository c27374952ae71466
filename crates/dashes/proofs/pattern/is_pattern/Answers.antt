-- `dashes::pattern::is_pattern` meets its contract. Assumes nothing.
use borrow.Author.Tests.{le-leb, lt-leb}
use mathlib.Core.Bool.{true≢false}
use mathlib.Core.Path.{sym, ◌∙◌}
use Rattle.dashes.specs.Pattern.{pattern_in}
use Rattle.dashes.proofs.pattern.is_pattern.Goals.{then-ds-le16, else-ds-le16}
use Rattle.dashes.proofs.pattern.is_pattern.Goals as goal

pub returns-then-is_offset : goal.returns-then-is_offset
unfolding pattern_in
returns-then-is_offset c =
    elim c.if-ds-le16.branch [
      | then-ds-le16 w ↦ rw (le-leb _ _ w.if-ds-le16.true, ← w.is_offset.ensures, ← w.value-is, c.if-is_offset.true) c.are_lengths.ensures
      | else-ds-le16 w ↦ absurd (true≢false (sym c.if-is_offset.true ∙ w.value-is ∙ lt-leb _ _ w.if-ds-le16.false))
    ]

pub returns-else-is_offset : goal.returns-else-is_offset
unfolding pattern_in
returns-else-is_offset c =
    elim c.if-ds-le16.branch [
      | then-ds-le16 w ↦ rw (le-leb _ _ w.if-ds-le16.true, ← w.is_offset.ensures, ← w.value-is, c.if-is_offset.false)
      | else-ds-le16 w ↦ w.value-is ∙ rw (lt-leb _ _ w.if-ds-le16.false)
    ]
