-- `radio_words::close` meets its contract. Assumes nothing.
use mathlib.Core.Path.{refl, sym, ◌∙◌}
use Rattle.radio_words.proofs.Calls.{close_on}
use Rattle.radio_words.proofs.close.Goals as goal

pub returns-then-not-is_behind : goal.returns-then-not-is_behind
returns-then-not-is_behind c =
    close_on c.args.state.now c.args.verbs.now c.args.coords.now _ _ _ c.held.ensures c.close-c.ensures refl _ _
    (sym c.is_behind.ensures ∙ c.if-not-is_behind.true) c.words_of.ensures c.put_over.ensures
