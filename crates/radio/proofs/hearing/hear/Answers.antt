-- `radio::hearing::hear` meets its contract. Assumes nothing.
use Prim.Native.Nat.{min}
use mathlib.Core.Path.{refl, ap, ◌∙◌}
use lib.ListN.{length}
use Rattle.radio.specs.Radio.{Tuned}
use Rattle.radio.proofs.Fragment.{opened, hear_more, hear_all, on_fits}
use Rattle.radio.proofs.hearing.hear.Goals as goal

pub past_limit-requires : goal.past_limit-requires
past_limit-requires c =
    let w : Tuned = record { radio = c.args.r; verbs = c.args.verbs.now; coords = c.args.coords.now } in
    let f = c.args.fragment.now in
    on_fits w (opened c.args.r c.requires) f c.min-n.result (c.min-n.ensures ∙ ap (λ k. min (length f) k) c.saturating_sub.ensures) _ _ c.pass.ensures refl

pub returns-then-n-fragment : goal.returns-then-n-fragment
returns-then-n-fragment c =
    let w : Tuned = record { radio = c.args.r; verbs = c.args.verbs.now; coords = c.args.coords.now } in
    let f = c.args.fragment.now in
    hear_more w (opened c.args.r c.requires) f c.min-n.result (c.min-n.ensures ∙ ap (λ k. min (length f) k) c.saturating_sub.ensures) _ _ c.pass.ensures refl _ _ c.if-n-fragment.true c.past_limit.ensures

pub returns : goal.returns
returns c =
    let w : Tuned = record { radio = c.args.r; verbs = c.args.verbs.now; coords = c.args.coords.now } in
    let f = c.args.fragment.now in
    hear_all w (opened c.args.r c.requires) f c.min-n.result (c.min-n.ensures ∙ ap (λ k. min (length f) k) c.saturating_sub.ensures) _ _ c.pass.ensures refl c.if-n-fragment.false
