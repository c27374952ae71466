-- `radio_words::codec::held` meets its contract. Assumes nothing.
use mathlib.Core.Path.{refl, ◌∙◌}
use Rattle.radio_words.proofs.Lists.{begins_is}
use Rattle.radio_words.proofs.Calls.{held_state, held_none}
use Rattle.radio_words.proofs.codec.held.Goals as goal

pub returns-then-starts_with : goal.returns-then-starts_with
returns-then-starts_with c = held_state c.args.list.now _ _ _ c.radio_in-r.ensures c.words_of.ensures (c.starts_with.ensures.value ∙ begins_is c.words_of.result c.args.list.now) c.if-starts_with.true

pub returns : goal.returns
returns c = held_none c.args.list.now _ _ _ c.radio_in-r.ensures c.words_of.ensures (c.starts_with.ensures.value ∙ begins_is c.words_of.result c.args.list.now) _ c.if-starts_with.false refl
