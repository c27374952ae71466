-- `root::root` meets its contract. Assumes nothing.
use lib.Ieee.{binary32, fits}
use Rattle.root.proofs.Answering.{high_refused, above_bits, rest_refused, nan_refused, refuses, zero_answer, answer}
use Rattle.root.proofs.Patterns.{no_nan_bits}
use mathlib.Core.Path.{sym, subst, ◌∙◌}
use native.Mathlib.Nat.{le_of_eq}
use lib.Dec.{T}
use Rattle.root.proofs.root.Goals.{Start}
use Rattle.root.proofs.root.Goals as goal

held : (c : Start) → T (fits binary32 c.args.x)
held c = subst T (sym c.well_formed.0.1) tt

pub returns-then-b-eq-INFINITY : goal.returns-then-b-eq-INFINITY
returns-then-b-eq-INFINITY c = refuses _ (high_refused _ (held (goal.at.returns-then-b-eq-INFINITY c).Start) (le_of_eq (sym c.if-b-eq-INFINITY.true)))

pub root_bits-requires : goal.root_bits-requires
root_bits-requires c = above_bits _ (held (goal.at.root_bits-requires c).Start) (subst T (sym c.if-x.true) tt) c.if-b-eq-INFINITY.false

pub float_from_bits-result : goal.float_from_bits-result
float_from_bits-result c = no_nan_bits _ c.root_bits.ensures.finite

pub returns-then-x : goal.returns-then-x
returns-then-x c = answer _ _ (held (goal.at.returns-then-x c).Start) (above_bits _ (held (goal.at.returns-then-x c).Start) (subst T (sym c.if-x.true) tt) c.if-b-eq-INFINITY.false).1 c.root_bits.ensures

pub returns-then-is_nan : goal.returns-then-is_nan
returns-then-is_nan c = refuses _ (nan_refused _ (sym c.is_nan.ensures.value ∙ c.if-is_nan.true))

pub returns-then-x-eq0 : goal.returns-then-x-eq0
returns-then-x-eq0 c = zero_answer _ (held (goal.at.returns-then-x-eq0 c).Start) c.if-x-eq0.true

pub returns : goal.returns
returns c = refuses _ (rest_refused _ (held (goal.at.returns c).Start) (λ t. subst T c.if-x.false t) c.if-x-eq0.false)
