-- `page::line::put_triangle` meets its contract: five digits at most to each of its numbers. Assumes nothing.
use native.Mathlib.Omega.{arith}
use Rattle.lines.proofs.Behind.{puts_then}
use Rattle.lines.proofs.Placing.{decimal_few}
use Rattle.page.proofs.line.put_triangle.Goals as goal

pub returns : goal.returns
returns c =
    let a = decimal_few c.args.a (omega arith) in
    let b = decimal_few c.args.b (omega arith) in
    let d = decimal_few c.args.c (omega arith) in
    let p1 = c.decimal_at-with_a.ensures.puts in
    let p2 = c.byte_at-a_spaced.ensures in
    let p3 = c.decimal_at-with_b.ensures.puts in
    let p4 = c.byte_at-b_spaced.ensures in
    let p5 = c.decimal_at-with_c.ensures.puts in
    record { puts = puts_then p1 (puts_then p2 (puts_then p3 (puts_then p4 (puts_then p5 c.byte_at.ensures)))); upper_bound = omega arith }
