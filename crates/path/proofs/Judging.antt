-- What each return of `check_path` answers is what `checked_of` says. Assumes nothing.
use Prim.Native.Nat.{ℕ, ◌*◌, ◌≤◌, ◌<◌}
use mathlib.Core.Path.{◌≡◌, sym, ◌∙◌}
use mathlib.Core.Bool.{true, false}
use mathlib.Core.List.{List}
use native.Mathlib.Omega.{arith}
use lib.Dec.{ltb, eqb}
use lib.ListN.{length}
use lib.Ieee.{Float}
use Rattle.std.specs.Prelude.{Ok, Err}
use borrow.Author.Tests.{lt-ltb, le-ltb, eq-eqb, ne_eqb}
use Rattle.refusals.specs.declared.Refusal.TheVariants.{TooManyVerbs, Verb, Coordinate}
use Rattle.path.specs.Limits.{verb_limit}
use Rattle.path.specs.Verbs.{first_misplaced, ends_inside, point_count, Scanned}
use Rattle.path.specs.Coordinates.{first_outside}
use Rattle.path.specs.Path.{malformed, checked_of, check_answer_of}
use Rattle.path.specs.declared.verbs.Scan.{Scan}
use Rattle.path.proofs.Laws.{count_le}
use Rattle.path.proofs.Placing.{misplaced_le}

-- twice the points that were counted fits
pub count_few : (vs : List ℕ) → length vs ≤ verb_limit → (s : Scan) → Scanned vs s → length vs ≤ s.place → s.points ≤ verb_limit
count_few vs few s e h =
    let whole : s.place ≡ length vs = omega (arith, e.place, misplaced_le false vs) in
    omega (arith, e.points whole, count_le vs)

module _ (vs : List ℕ) (cs : List Float) where
  pub says_many : verb_limit < length vs → check_answer_of (Err TooManyVerbs) ≡ checked_of vs cs
  unfolding checked_of
  says_many h = rw (lt-ltb verb_limit (length vs) h)

  module _ (few : length vs ≤ verb_limit) (s : Scan) (e : Scanned vs s) where
    not_many : ltb verb_limit (length vs) ≡ false
    not_many = le-ltb verb_limit (length vs) few

    pub says_misplaced : s.place < length vs → check_answer_of (Err (Verb s.place)) ≡ checked_of vs cs
    unfolding checked_of malformed
    says_misplaced h = let g : first_misplaced false vs < length vs = rw e.place at h in rw (e.place, not_many, lt-ltb _ _ g)

    module _ (h : length vs ≤ s.place) where
      whole : s.place ≡ length vs
      whole = omega (arith, e.place, misplaced_le false vs)

      not_misplaced : ltb (first_misplaced false vs) (length vs) ≡ false
      not_misplaced = le-ltb (first_misplaced false vs) (length vs) (omega (arith, e.place))

      pub says_inside : s.inside ≡ true → check_answer_of (Err (Verb s.place)) ≡ checked_of vs cs
      unfolding checked_of malformed
      says_inside t = let g : ends_inside false vs ≡ true = sym (e.inside whole) ∙ t in rw (e.place, not_many, not_misplaced, g)

      module _ (t : s.inside ≡ false) where
        outside : ends_inside false vs ≡ false
        outside = sym (e.inside whole) ∙ t

        pub says_uneven : (length cs ≡ 2 * s.points → ⊥) → check_answer_of (Err (Verb s.place)) ≡ checked_of vs cs
        unfolding checked_of malformed
        says_uneven n =
            let g : length cs ≡ 2 * point_count vs → ⊥ = λ z. n (omega (arith, e.points whole)) in
            rw (e.place, not_many, not_misplaced, outside, ne_eqb _ _ g)

        module _ (n : length cs ≡ 2 * s.points) where
          even : eqb (length cs) (2 * point_count vs) ≡ true
          even = eq-eqb (length cs) (2 * point_count vs) (omega (arith, e.points whole))

          pub says_large : (k : ℕ) → k ≡ first_outside cs → k < length cs → check_answer_of (Err (Coordinate k)) ≡ checked_of vs cs
          unfolding checked_of malformed
          says_large k q l = let g : first_outside cs < length cs = rw q at l in rw (q, not_many, not_misplaced, outside, even, lt-ltb _ _ g)

          pub says_accepted : length cs ≡ first_outside cs → check_answer_of (Ok tt) ≡ checked_of vs cs
          unfolding checked_of malformed
          says_accepted q = rw (not_many, not_misplaced, outside, even, le-ltb (first_outside cs) (length cs) (omega (arith, q)))
