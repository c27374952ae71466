-- One pass over the coordinates: what was to come is still to come; that all are within the limits, and the first that is not. Assumes nothing.
use Prim.Native.Nat.{ℕ, suc, ◌+◌, ◌≤◌, ◌<◌}
use mathlib.Core.Path.{◌≡◌, refl}
use mathlib.Core.Bool.{Bool, true, false, ◌&&◌, not, cond, false≢true}
use mathlib.Core.List.{List, [], ◌∷◌}
use native.Mathlib.Omega.{arith}
use native.Mathlib.Numerals.{add-one}
use borrow.Author.Tests.{ltb-true, ltb-false, lt-ltb, le-ltb}
use lib.Dec.{ltb}
use lib.Ieee.{Float, nan}
use lib.ListN.{length, drop, get_or, drop_of_length-le}
use lib.Seq.{drop-cons}
use Rattle.std.specs.Prelude.{Some, None, MatchOption}
use Rattle.std.specs.List.{fold, position, position_or_len}
use Rattle.std.proofs.lemmas.List.Recursion.{is_position_or_len}
use Rattle.plane.specs.Normal.{pick}
use Rattle.path.specs.Coordinates.{coordinate_in, first_outside}
use Rattle.path.proofs.Laws.{outside_le}

-- where all are within, so were those before
all_from : (all : Bool) (xs : List Float) → fold (λ t x. t && coordinate_in x) all xs ≡ true → (all ≡ true) × (length xs ≡ first_outside xs)
unfolding first_outside
all_from all [] e = (e, refl)
all_from all (x ∷ xs) e = let r = all_from (all && coordinate_in x) xs e in go all (coordinate_in x) r.0 r.1
  where
    go : (s t : Bool) → s && t ≡ true → length xs ≡ first_outside xs → (s ≡ true) × (length (x ∷ xs) ≡ pick t (suc (first_outside xs)) 0)
    go true true p q = (refl, omega (arith, q))
    go true false p q = absurd (false≢true p)
    go false t p q = absurd (false≢true p)

pub all_within : (xs : List Float) → fold (λ t x. t && coordinate_in x) true xs ≡ true → length xs ≡ first_outside xs
all_within xs e = (all_from true xs e).1

-- the first outside is the first that is not within
outside_is : (xs : List Float) → first_outside xs ≡ position_or_len (λ x. not (coordinate_in x)) xs
unfolding first_outside
outside_is = is_position_or_len first_outside (λ x. not (coordinate_in x)) refl step
  where
    by : (t : Bool) (n : ℕ) → pick t (suc n) 0 ≡ cond (not t) 0 (1 + n)
    by true n = omega arith
    by false n = refl

    step : (x : Float) (ys : List Float) → first_outside (x ∷ ys) ≡ cond (not (coordinate_in x)) 0 (1 + first_outside ys)
    step x ys = by (coordinate_in x) (first_outside ys)

pub first_by : (xs : List Float) → MatchOption (position (λ x. not (coordinate_in x)) xs) (length xs ≡ first_outside xs) (λ i. (i ≡ first_outside xs) × (i < length xs))
first_by xs = rw (← outside_is xs) (go (ltb (first_outside xs) (length xs)) refl)
  where
    go : (t : Bool) → ltb (first_outside xs) (length xs) ≡ t → MatchOption (cond t (Some (first_outside xs)) None) (length xs ≡ first_outside xs) (λ i. (i ≡ first_outside xs) × (i < length xs))
    go true p = (refl, ltb-true _ _ p)
    go false p = omega (arith, outside_le xs, ltb-false (first_outside xs) (length xs) p)

-- what a search answers: the first i are within the limits, and coordinate number i is not, or there is none
pub some_first : (xs : List Float) (i : ℕ) → i < length xs → i ≡ first_outside xs → Some i ≡ position (λ x. not (coordinate_in x)) xs
some_first xs i h e = rw (← outside_is xs, ← e, lt-ltb i (length xs) h)

pub none_outside : (xs : List Float) → length xs ≡ first_outside xs → None ≡ position (λ x. not (coordinate_in x)) xs
none_outside xs e = rw (← outside_is xs, le-ltb (first_outside xs) (length xs) (omega (arith, e)))

-- the first i coordinates are within the limits
pub record Within (xs : List Float) (i : ℕ) : Type 0 where
  pub reached : i ≤ length xs
  pub place : first_outside xs ≡ i + first_outside (drop i xs)

pub within_none : (xs : List Float) → Within xs 0
within_none xs = record { reached = omega arith; place = omega arith }

module _ (xs : List Float) (i : ℕ) (w : Within xs i) where
  pub within_all : length xs ≤ i → i ≡ first_outside xs
  unfolding first_outside
  within_all h =
      let e : drop i xs ≡ [] = drop_of_length-le xs h in
      let a : first_outside xs ≡ i + first_outside [] = rw e at w.place in
      omega arith

  module _ (h : i < length xs) where
    pub within_stop : coordinate_in (get_or xs i nan) ≡ false → i ≡ first_outside xs
    unfolding first_outside
    within_stop f = let a : first_outside xs ≡ i + 0 = rw (drop-cons xs i nan h, f) at w.place in omega arith

    pub within_one : coordinate_in (get_or xs i nan) ≡ true → Within xs (i + 1)
    unfolding first_outside
    within_one t =
        let a : first_outside xs ≡ i + suc (first_outside (drop (suc i) xs)) = rw (drop-cons xs i nan h, t) at w.place in
        record { reached = omega arith; place = rw add-one (omega arith) }
