-- `cuts::count_verb` meets its contract. Assumes nothing.
use mathlib.Core.Path.{sym, ◌∙◌}
use native.Mathlib.Omega.{arith}
use lib.ListN.{length-take, length-drop}
use Rattle.cuts.proofs.Passing.{verb_point, verb_end}
use Rattle.cuts.proofs.count_verb.Goals as goal

pub overflow_add-result : goal.overflow_add-result
overflow_add-result c = let inside = c.requires.2 in omega (arith, inside.end, inside.short)

pub returns-then-names_point : goal.returns-then-names_point
returns-then-names_point c =
    verb_point _ _ _ _ c.args.g _ c.requires.2 (sym c.names_point.ensures ∙ c.if-names_point.true)

pub count_run-cuts-requires : goal.count_run-cuts-requires
count_run-cuts-requires c =
    let pre = c.requires in
    record { some = pre.0; first = pre.1; few = pre.2.few }

pub endpoint_after-requires : goal.endpoint_after-requires
endpoint_after-requires c =
    let inside = c.requires.2 in
    omega (arith, inside.end, inside.short)

pub returns : goal.returns
returns c =
    rw c.endpoint_after.ensures
    (verb_end _ _ _ _ c.args.g _ c.requires.2 _ (sym c.names_point.ensures ∙ c.if-names_point.false) c.count_run-cuts.ensures)
