-- `page::line::put_vertex` meets its contract. Assumes nothing.
use Rattle.lines.proofs.Behind.{puts_then}
use Rattle.page.proofs.line.put_vertex.Goals as goal

pub returns-clause-puts : goal.returns-clause-puts
returns-clause-puts c = puts_then c.float_at-with_x.ensures.puts (puts_then c.byte_at-spaced.ensures (puts_then c.float_at-with_y.ensures.puts c.byte_at.ensures))
