-- What `root` answers, in the terms of document 01's table. Assumes nothing.
use Rattle.std.specs.Prelude.{◌≡◌, false, not, pos, T, Float, Option, Some, None}
use Rattle.std.specs.Float.{fin}
use Rattle.refusals.specs.Numbers.{number_of, accepted, no_root}
use Rattle.root.specs.Root.{rootable, IsRoot}
use Rattle.root.specs.declared.Answer.{Answer}

-- +0
abbrev pub zero : Float
zero = fin false 0 (pos 0)

-- "13: root of a negative, -0, infinite or NaN", place 0; "13 gives +0"
abbrev pub answer_of : Option Float → Answer
answer_of (Some r) = record { number = number_of accepted; place = 0; value = r }
answer_of None = record { number = number_of no_root; place = 0; value = zero }

-- a is the answer to x: the root where there is one, else refusal 13
pub record Answers (x : Float) (a : Answer) : Type 0 where
  pub accepted : T (rootable x) → (a.number ≡ number_of accepted) × (a.place ≡ 0) × IsRoot x a.value
  pub refused : T (not (rootable x)) → a ≡ answer_of None
