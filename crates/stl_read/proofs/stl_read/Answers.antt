-- `stl_read::stl_read` meets its contract. Assumes nothing.
use mathlib.Core.Path.{refl, sym, ◌∙◌}
use native.Mathlib.Nat.{le_of_eq}
use Rattle.std.specs.Prelude.{None, Some}
use Rattle.stl.specs.Read.{fine_facet}
use Rattle.stl.proofs.Each.{first_where, all_fine}
use Rattle.stl.proofs.Outcomes.{read_short, read_other, read_bad, read_full, read_done}
use Rattle.stl_read.proofs.stl_read.Goals as goal

pub returns-then-bytes-lt84 : goal.returns-then-bytes-lt84
returns-then-bytes-lt84 c = read_short _ _ c.if-bytes-lt84.true

pub returns-then-bytes-n : goal.returns-then-bytes-n
returns-then-bytes-n c = read_other _ _ c.if-bytes-lt84.false _ c.word-n.ensures c.if-bytes-n.true

pub returns-in-Some : goal.returns-in-Some
returns-in-Some c =
    let h = first_where (fine_facet c.args.bytes.now) c.word-n.result (Some c.in-Some.k) (sym c.in-Some.is ∙ c.first_damaged.ensures) in
    read_bad _ _ c.if-bytes-lt84.false _ c.word-n.ensures c.if-bytes-n.false _ h.0 h.1

pub returns-then-corners-floats : goal.returns-then-corners-floats
returns-then-corners-floats c =
    let h = first_where (fine_facet c.args.bytes.now) c.word-n.result None (sym c.in_default.is ∙ c.first_damaged.ensures) in
    read_full _ _ c.if-bytes-lt84.false _ c.word-n.ensures c.if-bytes-n.false _ refl h c.if-corners-floats.true

pub put_all-requires : goal.put_all-requires
put_all-requires c =
    let h = first_where (fine_facet c.args.bytes.now) c.word-n.result None (sym c.in_default.is ∙ c.first_damaged.ensures) in
    record { room = c.if-corners-floats.false; bytes = le_of_eq (sym c.if-bytes-n.false); fine = all_fine _ _ _ refl h }

pub returns : goal.returns
returns c =
    let h = first_where (fine_facet c.args.bytes.now) c.word-n.result None (sym c.in_default.is ∙ c.first_damaged.ensures) in
    read_done _ _ c.if-bytes-lt84.false _ c.word-n.ensures c.if-bytes-n.false _ refl h c.if-corners-floats.false _ c.put_all.ensures
