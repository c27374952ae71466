-- Any two answers that a call's contract allows are the same: number and place, and the result that stands for them. Assumes nothing.
use Prim.Native.Nat.{ℕ}
use mathlib.Core.Path.{◌≡◌, refl, sym, ap, ◌∙◌}
use mathlib.Core.Bool.{cond}
use mathlib.Core.List.{List}
use lib.Dec.{eqb}
use Rattle.std.specs.Prelude.{Result, Ok, Err}
use Rattle.refusals.specs.Numbers.{number_of, accepted, list_length, number_too_large, two_alike, vertex_unnamed}
use Rattle.refusals.specs.declared.Verdict.{Verdict}
use Rattle.inspect.specs.Answer.{checked_of, check_of, check_attached_of}
use Rattle.inspect.specs.declared.answer.Fault.{Fault}
use Rattle.inspect.specs.declared.answer.Fault.TheVariants.{Length, TooLarge, Alike, Unnamed, NotAttached}

-- ---- the number and the place tell the result
told : Verdict → Result (Unit {0}) Fault
told v =
    cond (eqb v.number (number_of accepted)) (Ok tt)
    (cond (eqb v.number (number_of list_length)) (Err Length)
    (cond (eqb v.number (number_of number_too_large)) (Err (TooLarge v.place))
    (cond (eqb v.number (number_of two_alike)) (Err (Alike v.place))
    (cond (eqb v.number (number_of vertex_unnamed)) (Err (Unnamed v.place)) (Err (NotAttached v.place))))))

told_is : (r : Result (Unit {0}) Fault) → told (checked_of r) ≡ r
unfolding told
told_is (Ok u) = refl
told_is (Err Length) = refl
told_is (Err (TooLarge i)) = refl
told_is (Err (Alike t)) = refl
told_is (Err (Unnamed v)) = refl
told_is (Err (NotAttached t)) = refl

same_told : (r s : Result (Unit {0}) Fault) → checked_of r ≡ checked_of s → (checked_of r ≡ checked_of s) × (r ≡ s)
same_told r s e = (e, sym (told_is r) ∙ ap told e ∙ told_is s)

-- ---- both questions
pub check_one : (count : ℕ) (l : List ℕ) (r s : Result (Unit {0}) Fault) → checked_of r ≡ check_of count l → checked_of s ≡ check_of count l → (checked_of r ≡ checked_of s) × (r ≡ s)
check_one count l r s h k = same_told r s (h ∙ sym k)

pub check_attached_one : (count : ℕ) (l : List ℕ) (r s : Result (Unit {0}) Fault) → checked_of r ≡ check_attached_of count l → checked_of s ≡ check_attached_of count l → (checked_of r ≡ checked_of s) × (r ≡ s)
check_attached_one count l r s h k = same_told r s (h ∙ sym k)
