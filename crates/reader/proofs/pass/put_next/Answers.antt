-- `reader::pass::put_next` meets its contract. Assumes nothing.
use mathlib.Core.Path.{sym, ap, ◌∙◌}
use native.Mathlib.Omega.{arith}
use Rattle.reader.specs.Pass.{event_put}
use Rattle.reader.proofs.Adding.{put_nothing}
use Rattle.reader.proofs.pass.put_next.Goals as goal

pub returns-in-Nothing : goal.returns-in-Nothing
returns-in-Nothing c =
    let none = put_nothing _ (record { verbs = omega (arith, c.well_formed); coords = omega (arith, c.well_formed) }) in
    sym (ap (event_put (record { counts = c.args.c; verbs = c.args.verbs.now; coords = c.args.coords.now })) c.in-Nothing.is ∙ none)
