-- What an accepted path is, for the layers above; that its verbs make runs is proofs/Runs.antt. Assumes nothing.
use Prim.Native.Nat.{ℕ, zero, suc, ◌*◌, ◌≤◌, ◌<◌}
use mathlib.Core.Path.{◌≡◌, refl}
use mathlib.Core.Bool.{Bool, true, false, ◌||◌, true≢false, false≢true}
use mathlib.Core.List.Memᴰ
use mathlib.Core.List.{List, [], ◌∷◌, Memᴰ}
use mathlib.Core.Logic.{⊎_elim}
use native.Mathlib.Nat.{le_antisymm}
use native.Mathlib.Omega.{arith}
use lib.Dec.{T, eqb}
use lib.ListN.{length, get_or}
use lib.Ieee.{Float, nan, inf, fin, neg, lt, le, eq, of_bits}
use lib.Ieee.Scale.{finite}
use borrow.Author.Tests.{ltb-false, eqb-true, le-ltb, eq-eqb, not-false}
use Rattle.refusals.specs.Numbers.{number_of, accepted, verdict}
use Rattle.refusals.specs.declared.Verdict.{Verdict}
use Rattle.plane.specs.Normal.{pick}
use Rattle.path.specs.Limits.{verb_limit}
use Rattle.path.specs.Verbs.{first_misplaced, point_count}
use Rattle.path.specs.Coordinates.{coordinate_in, first_outside}
use Rattle.path.specs.Path.{malformed, checked_of, Sound}
use Rattle.path.proofs.Placing.{named_le, misplaced_le}

-- no more points than verbs
pub count_le : (vs : List ℕ) → point_count vs ≤ length vs
unfolding point_count
count_le [] = omega arith
count_le (v ∷ vs) = omega (arith, named_le v, count_le vs)

-- where all is accepted, no test that refuses was passed
not_refused : (t : Bool) (x y : Verdict) → eqb x.number (number_of accepted) ≡ false → (pick t x y).number ≡ number_of accepted → (t ≡ false) × (y.number ≡ number_of accepted)
not_refused true x y n e = absurd (true≢false (rw e at n))
not_refused false x y n e = (refl, e)

neither : (a b : Bool) → (a || b) ≡ false → (a ≡ false) × (b ≡ false)
neither true b e = absurd (true≢false e)
neither false b e = (refl, e)

pub outside_le : (xs : List Float) → first_outside xs ≤ length xs
unfolding first_outside
outside_le [] = omega arith
outside_le (x ∷ xs) = go (coordinate_in x) (outside_le xs)
  where
    go : (t : Bool) → first_outside xs ≤ length xs → pick t (suc (first_outside xs)) 0 ≤ suc (length xs)
    go true h = omega arith
    go false h = omega arith

-- accepted, exactly when sound
module _ (vs : List ℕ) (cs : List Float) where
  pub sound : (checked_of vs cs).number ≡ number_of accepted → Sound vs cs
  unfolding checked_of malformed
  sound e =
      let second = not_refused _ _ _ refl e in
      let third = not_refused _ _ _ refl second.1 in
      let fourth = not_refused _ _ _ refl third.1 in
      let verbs = neither _ _ third.0 in
      let placing = neither _ _ verbs.0 in
      record {
        few = ltb-false verb_limit (length vs) second.0;
        placed = le_antisymm (misplaced_le false vs) (ltb-false (first_misplaced false vs) (length vs) placing.0);
        ended = placing.1;
        paired = eqb-true (length cs) (2 * point_count vs) (not-false _ verbs.1);
        within = le_antisymm (outside_le cs) (ltb-false (first_outside cs) (length cs) fourth.0);
      }

  pub sound_accepted : Sound vs cs → checked_of vs cs ≡ verdict accepted 0
  unfolding checked_of malformed
  sound_accepted s =
      rw (
        le-ltb verb_limit (length vs) s.few,
        le-ltb (first_misplaced false vs) (length vs) (omega (arith, s.placed)),
        s.ended,
        eq-eqb (length cs) (2 * point_count vs) s.paired,
        le-ltb (first_outside cs) (length cs) (omega (arith, s.within)),
      )

-- of coordinates of which none is outside, each is within the limits: by its index, and as an element
within_cons : (x : Float) (xs : List Float) → first_outside (x ∷ xs) ≡ suc (length xs) → (coordinate_in x ≡ true) × (first_outside xs ≡ length xs)
unfolding first_outside
within_cons x xs e = go (coordinate_in x) e
  where
    go : (t : Bool) → pick t (suc (first_outside xs)) 0 ≡ suc (length xs) → (t ≡ true) × (first_outside xs ≡ length xs)
    go true h = (refl, omega arith)
    go false h = absurd (omega arith)

pub within_at : (xs : List Float) → first_outside xs ≡ length xs → (i : ℕ) → i < length xs → coordinate_in (get_or xs i nan) ≡ true
within_at [] e i h = absurd (omega arith)
within_at (x ∷ xs) e zero h = (within_cons x xs e).0
within_at (x ∷ xs) e (suc i) h = within_at xs (within_cons x xs e).1 i (omega arith)

pub within_every : (xs : List Float) → first_outside xs ≡ length xs → (x : Float) → Memᴰ x xs → coordinate_in x ≡ true
within_every [] e x m = absurd (Memᴰ.not-nil m)
within_every (y ∷ ys) e x m =
    let w = within_cons y ys e in
    ⊎_elim (λ q. rw q w.0) (within_every ys w.1 x) (Memᴰ.cases_cons m)

-- "a coordinate not finite" is never within them
pub within_finite : (x : Float) → coordinate_in x ≡ true → T (finite x)
unfolding coordinate_in neg lt eq le of_bits
within_finite nan e = false≢true e
within_finite (inf true) e = false≢true e
within_finite (inf false) e = false≢true e
within_finite (fin s m d) e = tt
