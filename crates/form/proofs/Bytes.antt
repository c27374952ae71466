-- A digit is one of 48 to 57. Assumes nothing.
use Prim.Native.Nat.{ℕ, ◌≤◌}
use mathlib.Core.Path.{◌≡◌}
use Rattle.std.proofs.Common.{arith}
use Rattle.std.proofs.lemmas.Grind.{common_steps}
use Rattle.form.specs.declared.classes.Class.TheVariants.{Digit}
use Rattle.form.specs.Bytes.{class_of}

pub digit_from : (b : ℕ) → class_of b ≡ Digit → 48 ≤ b
unfolding class_of
digit_from b e = grind (arith, common_steps)

pub digit_to : (b : ℕ) → class_of b ≡ Digit → b ≤ 57
unfolding class_of
digit_to b e = grind (arith, common_steps)
