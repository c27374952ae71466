-- `join::side::is_past` meets its contract. std's `min` may give either of two that compare equal, and is above zero where `min_of` is. Assumes nothing.
use mathlib.Core.Path.{◌≡◌, refl, sym, ap, subst, ◌∙◌}
use mathlib.Core.Bool.{Bool, true, false, ◌||◌, cond}
use lib.Dec.{T}
use lib.Ieee.{Float, nan, inf, fin, lt, le, eq, ne, is_nan}
use lib.Ieee.Compare.{differs_from_itself, nan_differs}
use Rattle.std.specs.Float.{float_min, IsFloatMin}
use Rattle.std.proofs.Common.{inl, inr}
use Rattle.std.proofs.lemmas.Float.{le_of_eq, lt_of_lt_of_le, eq_flip}
use Rattle.plane.specs.F32.{f32, above}
use Rattle.plane.specs.Normal.{pick}
use Rattle.join.specs.Side.{min_of, past_of}
use Rattle.join.proofs.side.is_past.Goals as goal

both_ways : (s t : Bool) → (T s → T t) → (T t → T s) → s ≡ t
both_ways true true f g = refl
both_ways true false f g = absurd (f tt)
both_ways false true f g = absurd (g tt)
both_ways false false f g = refl

nan_left : (b : Float) → float_min nan b ≡ b
unfolding le lt eq is_nan
nan_left nan = refl
nan_left (inf s) = refl
nan_left (fin s m e) = refl

nan_right : (a : Float) → float_min a nan ≡ a
unfolding le lt eq is_nan
nan_right nan = refl
nan_right (inf s) = refl
nan_right (fin s m e) = refl

number : (b : Float) → ne b b ≡ false → is_nan b ≡ false
unfolding is_nan
number nan h = absurd (subst T (sym nan_differs ∙ h) tt)
number (inf s) h = refl
number (fin s m e) h = refl

module _ (a b : Float) where
  level : T (eq a b) → above a ≡ above b
  level e = both_ways (above a) (above b) (λ h. lt_of_lt_of_le (f32 0) a b h (le_of_eq a b e)) (λ h. lt_of_lt_of_le (f32 0) b a h (le_of_eq b a (eq_flip a b e)))

  first_of : (t : Bool) → above a ≡ above b → above (cond t a b) ≡ above a
  first_of true e = refl
  first_of false e = sym e

  second_of : (t : Bool) → above a ≡ above b → above (cond t b a) ≡ above a
  second_of true e = sym e
  second_of false e = refl

  min_level : above a ≡ above b → above (min_of a b) ≡ above a
  unfolding min_of
  min_level e = go (ne a a) (ne b b) (lt a b)
    where
      go : (r s t : Bool) → above (pick r b (pick s a (pick t a b))) ≡ above a
      go true s t = sym e
      go false true t = refl
      go false false true = refl
      go false false false = sym e

  min_unlike : eq a b ≡ false → float_min a b ≡ min_of a b
  unfolding min_of le
  min_unlike h = go (ne a a) (ne b b) (differs_from_itself a) (differs_from_itself b) (number b)
    where
      last : (t : Bool) → cond ((t || false) || false) a b ≡ pick t a b
      last true = refl
      last false = refl

      go : (r s : Bool) → (T r → a ≡ nan) → (T s → b ≡ nan) → (s ≡ false → is_nan b ≡ false) → float_min a b ≡ pick r b (pick s a (pick (lt a b) a b))
      go true s f g k = rw (f tt) (nan_left b)
      go false true f g k = rw (g tt) (nan_right a)
      go false false f g k = rw (h, k refl) (last (lt a b))

  min_above : (r : Float) (t : Bool) → eq a b ≡ t → IsFloatMin a b r → (eq a b ≡ false → r ≡ float_min a b) → above r ≡ above (min_of a b)
  min_above r true h (inl e) u = let l = level (subst T (sym h) tt) in rw e (first_of (le a b || is_nan b) l ∙ sym (min_level l))
  min_above r true h (inr e) u = let l = level (subst T (sym h) tt) in rw e (second_of (le b a || is_nan a) l ∙ sym (min_level l))
  min_above r false h m u = ap above (u h ∙ min_unlike h)

pub returns : goal.returns
unfolding past_of
returns c =
    min_above _ _ _ _ refl c.min.ensures.value c.min.ensures.unequal
    ∙ rw (c.dot-2.ensures, c.neg.ensures, c.dot.ensures, c.mul-extruded.ensures)
