-- `page::line::put_refused` meets its contract. Assumes nothing.
use Rattle.lines.proofs.Behind.{puts_then}
use Rattle.page.proofs.line.put_refused.Goals as goal

pub returns-clause-puts : goal.returns-clause-puts
returns-clause-puts c = puts_then c.text_at-named.ensures (puts_then c.decimal_at-numbered.ensures.puts (puts_then c.byte_at-spaced.ensures (puts_then c.decimal_at-placed.ensures.puts c.byte_at.ensures)))
