-- Each call undoes the other: both copy, so what is held is the list itself. Assumes nothing.
use Prim.Native.Nat.{ℕ, ◌≤◌}
use mathlib.Core.Path.{◌≡◌, ap, ◌∙◌}
use mathlib.Core.List.{List}
use native.Mathlib.Nat.{le_of_eq}
use mathlib.Core.Path.{sym}
use lib.ListN.{length}
use Rattle.refusals.specs.Numbers.{number_of, accepted}
use Rattle.lists.proofs.Laws.{take_over}
use Rattle.widths.specs.Widths.{Outcome, copied, widen_of, narrow_of}
use Rattle.widths.specs.Back.{AreNarrow, held, NarrowsBack, WidensBack, Inverse}
use Rattle.widths.proofs.Copying.{all_narrow, none_wide}
use Rattle.widths.proofs.Outcomes.{widen_is, widened, narrow_is, narrowed}

module _ (xs ys : List ℕ) where
  is_held : {o : Outcome} → o ≡ copied xs ys → length xs ≤ length ys → held o ≡ xs
  is_held e h = ap held e ∙ take_over xs ys h

  -- narrowing undoes widening
  pub narrows_back : AreNarrow xs → (widen_of xs ys).answer.number ≡ number_of accepted → NarrowsBack xs ys
  narrows_back a e =
      let h = widened xs ys e in
      let k = is_held (widen_is xs ys h) h in
      (k, λ zs l. rw k (narrow_is xs zs l (le_of_eq (sym (none_wide xs a)))))

  -- widening undoes narrowing
  pub widens_back : (narrow_of xs ys).answer.number ≡ number_of accepted → WidensBack xs ys
  widens_back e =
      let h = narrowed xs ys e in
      let k = is_held (narrow_is xs ys h.0 h.1) h.0 in
      (k, λ zs l. rw k (widen_is xs zs l))

pub inverse : (xs ys : List ℕ) → Inverse xs ys
inverse xs ys = record { narrows = narrows_back xs ys; widens = λ e. (widens_back xs ys e, all_narrow xs (narrowed xs ys e).1) }
