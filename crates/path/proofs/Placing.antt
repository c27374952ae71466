-- The verbs: where each may stand, by its number, and one pass over them, in which what was to come is still to come. Assumes nothing.
use Prim.Native.Nat.{ℕ, suc, ◌+◌, ◌≤◌, ◌<◌}
use mathlib.Core.Path.{◌≡◌, refl}
use mathlib.Core.Bool.{Bool, true, false}
use mathlib.Core.List.{List, [], ◌∷◌}
use native.Mathlib.Omega.{arith}
use native.Mathlib.Numerals.{add-one}
use lib.ListN.{length, drop, get_or, drop_of_length-le}
use lib.Seq.{drop-cons}
use borrow.Author.Tests.{ne_eqb}
use mir.Val.{bool_byte}
use Rattle.plane.specs.Normal.{pick}
use Rattle.path.specs.Verbs.{begin, line, end_open, end_closed, names, named, placed, first_misplaced, ends_inside, point_count, Scanned}

-- 0 to 3 are verbs, and there are no others
pub placed_unknown : (inside : Bool) (v : ℕ) → 4 ≤ v → false ≡ placed inside v
unfolding placed
placed_unknown true v h = rw (ne_eqb v line (λ e. omega arith), ne_eqb v end_open (λ e. omega arith), ne_eqb v end_closed (λ e. omega arith))
placed_unknown false v h = rw (ne_eqb v begin (λ e. omega arith))

-- a verb that names a point names one
pub one_named : (v : ℕ) → bool_byte (names v) ≡ named v
unfolding named
one_named v = go (names v)
  where
    go : (t : Bool) → bool_byte t ≡ pick t 1 0
    go true = refl
    go false = refl

pub one_at_most : (b : Bool) → bool_byte b ≤ 1
one_at_most true = omega arith
one_at_most false = omega arith

pub named_le : (v : ℕ) → named v ≤ 1
unfolding named
named_le v = go (names v)
  where
    go : (t : Bool) → pick t 1 0 ≤ 1
    go true = omega arith
    go false = omega arith

pub misplaced_le : (inside : Bool) (vs : List ℕ) → first_misplaced inside vs ≤ length vs
unfolding first_misplaced
misplaced_le inside [] = omega arith
misplaced_le inside (v ∷ vs) = go (placed inside v) (misplaced_le (names v) vs)
  where
    go : (t : Bool) → first_misplaced (names v) vs ≤ length vs → pick t (suc (first_misplaced (names v) vs)) 0 ≤ suc (length vs)
    go true h = omega arith
    go false h = omega arith

-- the first i verbs are placed and name n points; behind them the list is inside a run or not
pub record Passed (vs : List ℕ) (i : ℕ) (inside : Bool) (n : ℕ) : Type 0 where
  pub reached : i ≤ length vs
  pub few : n ≤ i
  pub place : first_misplaced false vs ≡ i + first_misplaced inside (drop i vs)
  pub ending : ends_inside false vs ≡ ends_inside inside (drop i vs)
  pub points : point_count vs ≡ n + point_count (drop i vs)

pub passed_none : (vs : List ℕ) → Passed vs 0 false 0
passed_none vs = record { reached = omega arith; few = omega arith; place = omega arith; ending = refl; points = omega arith }

module _ (vs : List ℕ) (i : ℕ) (inside : Bool) (n : ℕ) (p : Passed vs i inside n) where
  pub passed_all : length vs ≤ i → Scanned vs (record { place = i; inside = inside; points = n })
  unfolding first_misplaced ends_inside point_count
  passed_all h =
      let e : drop i vs ≡ [] = drop_of_length-le vs h in
      let a : first_misplaced false vs ≡ i + first_misplaced inside [] = rw e at p.place in
      let b : ends_inside false vs ≡ ends_inside inside [] = rw e at p.ending in
      let c : point_count vs ≡ n + point_count [] = rw e at p.points in
      record { place = omega arith; inside = λ _. cc; points = λ _. omega arith }

  module _ (h : i < length vs) where
    pub passed_stop : placed inside (get_or vs i 0) ≡ false → Scanned vs (record { place = i; inside = inside; points = n })
    unfolding first_misplaced
    passed_stop f =
        let a : first_misplaced false vs ≡ i + 0 = rw (drop-cons vs i 0 h, f) at p.place in
        record { place = omega arith; inside = λ e. absurd (omega arith); points = λ e. absurd (omega arith) }

    pub passed_one : placed inside (get_or vs i 0) ≡ true → Passed vs (i + 1) (names (get_or vs i 0)) (n + named (get_or vs i 0))
    unfolding first_misplaced ends_inside point_count
    passed_one t =
        let v = get_or vs i 0 in
        let f = named_le v in
        let a : first_misplaced false vs ≡ i + suc (first_misplaced (names v) (drop (suc i) vs)) = rw (drop-cons vs i 0 h, t) at p.place in
        let b : ends_inside false vs ≡ ends_inside (names v) (drop (suc i) vs) = rw (drop-cons vs i 0 h) at p.ending in
        let c : point_count vs ≡ n + (named v + point_count (drop (suc i) vs)) = rw (drop-cons vs i 0 h) at p.points in
        record { reached = omega arith; few = omega (arith, p.few); place = rw add-one (omega arith); ending = rw add-one b; points = rw add-one (omega arith) }
