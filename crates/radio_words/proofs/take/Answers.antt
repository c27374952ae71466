-- `radio_words::take` meets its contract. Assumes nothing.
use mathlib.Core.Path.{refl}
use mathlib.Core.Bool.{false}
use Rattle.std.proofs.lemmas.Result.{err_from_is_err_and}
use Rattle.radio.specs.Radio.{Took}
use Rattle.radio_words.proofs.Calls.{take_on, take_not}
use Rattle.radio_words.proofs.take.Goals as goal

pub returns-in_err-on : goal.returns-in_err-on
returns-in_err-on c =
    let p = err_from_is_err_and c.from_residual.result c.from_residual.ensures.1 in
    let t : Took = record { radio = c.held.result; taken = false; verbs = c.take.new.verbs; coords = c.take.new.coords } in
    rw p.1 (take_not c.args.state.now c.args.fragment.now c.args.verbs.now c.args.coords.now c.held.result t c.held.ensures c.in_err-on.ensures refl)

pub returns : goal.returns
returns c = take_on c.args.state.now c.args.fragment.now c.args.verbs.now c.args.coords.now _ _ c.held.ensures c.in_ok-on.ensures _ _ refl c.words_of.ensures c.put_over.ensures
