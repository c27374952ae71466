-- `plane::vector::root_value` meets its contract: refusal 13 gives +0. Assumes nothing.
use mathlib.Core.Path.{◌≡◌, refl, sym, ◌∙◌, subst}
use lib.Dec.{T}
use lib.Ieee.{Float, binary32, of_bits}
use Rattle.std.proofs.Common.{Option, Some, None}
use Rattle.std.specs.Option.{unwrap_or}
use Rattle.root.specs.Answer.{answer_of}
use Rattle.root.proofs.Computed.{value_is}
use Rattle.plane.proofs.vector.root_value.Goals as goal

value_of : (r : Option Float) → unwrap_or r (of_bits binary32 0) ≡ (answer_of r).value
unfolding of_bits
value_of (Some x) = refl
value_of None = refl

pub returns : goal.returns
returns c = c.unwrap_or.ensures ∙ value_of c.root.result ∙ value_is c.args.x (subst T (sym c.well_formed.0.1) tt) _ c.root.ensures
