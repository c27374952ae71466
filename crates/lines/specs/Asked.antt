-- A reader of a line was asked for the next word. Assumes nothing.
use Rattle.std.specs.Prelude.{◌≡◌}
use Rattle.lines.specs.Words.{behind}
use Rattle.lines.specs.declared.words.Words.{Words}

-- it stands behind that word, and where there is none, where it stood
pub record Asked (before after : Words) : Type 0 where
  pub line : after.line.now ≡ before.line.now
  pub next : after.next ≡ behind before.line.now before.next
