-- Laws of `first_bad`, and of a row whose elements are spelt by m values each and written one behind the other. Assumes nothing.
use Prim.Native.Nat.{ℕ, zero, suc, ◌+◌, ◌-◌, ◌*◌, ◌≤◌, ◌<◌}
use mathlib.Core.Path.{◌≡◌, refl, sym, ap, ◌∙◌, subst}
use mathlib.Core.Bool.{Bool, true, false, not, cond}
use mathlib.Core.List.{List, ◌++◌}
use mathlib.Core.Logic.{◌⊎◌, inl, inr}
use native.Mathlib.Nat.{eq-or-lt_of_le, mul-le-mul_left}
use native.Mathlib.Omega.{arith}
use borrow.Rule.Slice.PartMut.{mid_of, put_mid, same_len_mid}
use borrow.Author.Tests.{ltb-true, ltb-false}
use lib.Dec.{T, ltb}
use lib.Ieee.Bits.{is_true}
use lib.ListN.{length, take, drop, take-append-drop}
use Rattle.std.specs.Prelude.{Option, Some, None, MatchOption, position}
use Rattle.std.specs.List.{position_or_len, range_with_len}
use Rattle.std.proofs.lemmas.List.FromFn.{length-range_with_len}
use Rattle.lists.specs.Over.{over, flat}
use Rattle.lists.proofs.Laws.{over_none}
use Rattle.lists.proofs.Parts.{turn}
use Rattle.stl.specs.Each.{each, first_bad}

-- ---- the first that is not fine
module _ (fine : ℕ → Bool) where
  -- std's search of the numbers i, i + 1, .., n in all, for one that is not fine
  bad_from : (i n : ℕ) → first_bad fine i n ≡ i + position_or_len (λ k. not (fine k)) (range_with_len i n)
  unfolding first_bad
  bad_from i zero = omega arith
  bad_from i (suc n) = go (fine i) (bad_from (i + 1) n)
    where
      later : ℕ
      later = position_or_len (λ k. not (fine k)) (range_with_len (i + 1) n)

      go : (b : Bool) → first_bad fine (i + 1) n ≡ i + 1 + later → cond b (first_bad fine (i + 1) n) i ≡ i + cond (not (not b)) (1 + later) 0
      go true e = omega (arith, e)
      go false e = omega arith

  pub first_where : (n : ℕ) (r : Option ℕ) → r ≡ position (λ k. not (fine k)) (range_with_len 0 n) → MatchOption r (n ≤ first_bad fine 0 n) (λ k. (k ≡ first_bad fine 0 n) × (k < n))
  first_where n r e = go (ltb (first_bad fine 0 n) n) (ltb-true (first_bad fine 0 n) n) (ltb-false (first_bad fine 0 n) n) (rw (← same, length-range_with_len) at e)
    where
      same : first_bad fine 0 n ≡ position_or_len (λ k. not (fine k)) (range_with_len 0 n)
      same = omega (arith, bad_from 0 n)

      go : (b : Bool) → (b ≡ true → first_bad fine 0 n < n) → (b ≡ false → n ≤ first_bad fine 0 n) → r ≡ cond b (Some (first_bad fine 0 n)) None
          → MatchOption r (n ≤ first_bad fine 0 n) (λ k. (k ≡ first_bad fine 0 n) × (k < n))
      go true t f e = rw e (refl, t refl)
      go false t f e = rw e (f refl)

  -- none is passed over: where the answer is the end, all are fine
  fine_from : (i n : ℕ) → i + n ≤ first_bad fine i n → (k : ℕ) → i ≤ k → k < i + n → T (fine k)
  unfolding first_bad
  fine_from i zero h k a b = absurd (none i k a b)
    where
      none : (i k : ℕ) → i ≤ k → k < i + 0 → ⊥
      none i k a b = omega arith
  fine_from i (suc n) h k a b = go (λ g c d. fine_from (i + 1) n g k c d) (fine i) refl h
    where
      less : (i n : ℕ) → i + suc n ≤ i → ⊥
      less i n h = omega arith

      next : (i + 1 + n ≤ first_bad fine (i + 1) n → i + 1 ≤ k → k < i + 1 + n → T (fine k)) → fine i ≡ true → i + suc n ≤ first_bad fine (i + 1) n → (i ≡ k) ⊎ (i < k) → T (fine k)
      next r e h (inl q) = subst (λ (j : ℕ). T (fine j)) q (subst T (sym e) tt)
      next r e h (inr q) = r (omega arith) (omega arith) (omega arith)

      go : (i + 1 + n ≤ first_bad fine (i + 1) n → i + 1 ≤ k → k < i + 1 + n → T (fine k)) → (b : Bool) → fine i ≡ b → i + suc n ≤ cond b (first_bad fine (i + 1) n) i → T (fine k)
      go r true e h = next r e h (eq-or-lt_of_le a)
      go r false e h = absurd (less i n h)

  pub all_fine : (n k : ℕ) → k ≡ first_bad fine 0 n → n ≤ k → (i : ℕ) → i < n → T (fine i)
  all_fine n k e h i l = fine_from 0 n (omega arith) i (omega arith) (omega arith)

  -- and the other way round
  pub first_all : (i n : ℕ) → ((k : ℕ) → i ≤ k → k < i + n → T (fine k)) → first_bad fine i n ≡ i + n
  unfolding first_bad
  first_all i zero h = omega arith
  first_all i (suc n) h =
      rw (is_true (fine i) (h i (omega arith) (omega arith)))
      (first_all (i + 1) n (λ k a b. h k (omega arith) (omega arith)) ∙ omega arith)

-- ---- rows
module _ {A : Type 0} (f : ℕ → A) where
  pub length_each : (i n : ℕ) → length (each f i n) ≡ n
  unfolding each
  length_each i zero = refl
  length_each i (suc n) = ap suc (length_each (i + 1) n)

-- k of n elements are written over x0, each spelt by m values: what was to come is still to come
pub record Row {A B : Type 0} (f : ℕ → A) (spell : A → List B) (m n : ℕ) (x0 x : List B) (k : ℕ) : Type 0 where
  pub same : length x ≡ length x0
  pub content : over (flat spell (each f 0 n)) x0 ≡ take (m * k) x ++ over (flat spell (each f k (n - k))) (drop (m * k) x)

module _ {A B : Type 0} (f : ℕ → A) (spell : A → List B) (m n : ℕ) (x0 : List B) (room : m * n ≤ length x0) where
  ahead : (k : ℕ) → k < n → flat spell (each f k (n - k)) ≡ spell (f k) ++ flat spell (each f (k + 1) (n - (k + 1)))
  unfolding each flat
  ahead k h = let e : n - k ≡ suc (n - (k + 1)) = omega arith in rw e

  module _ (x : List B) (k : ℕ) (w : Row f spell m n x0 x k) where
    pub row_room : k < n → m * k + m ≤ length x
    row_room h =
        let b = w.same in
        let d = mul-le-mul_left m h in
        omega arith

    pub row_turn : k < n → length (spell (f k)) ≡ m → (ys : List B) → length ys ≡ length (mid_of (m * k) (length x - m * k) x) → ys ≡ over (spell (f k)) (mid_of (m * k) (length x - m * k) x)
        → Row f spell m n x0 (put_mid (m * k) (length x - m * k) x ys) (k + 1)
    row_turn h l ys g y =
        let e : m * (k + 1) ≡ m * k + m = omega arith in
        record {
          same = same_len_mid (m * k) (length x - m * k) x ys g ∙ w.same;
          content =
              rw e
              (w.content ∙ ap (λ (r : List B). take (m * k) x ++ over r (drop (m * k) x)) (ahead k h)
              ∙ turn x ys (spell (f k)) (flat spell (each f (k + 1) (n - (k + 1)))) (m * k) m l (row_room h) y);
        }

    pub row_done : n ≤ k → x ≡ over (flat spell (each f 0 n)) x0
    unfolding each flat
    row_done h =
        let e : n - k ≡ 0 = omega arith in
        sym
        (w.content ∙ ap (λ (j : ℕ). take (m * k) x ++ over (flat spell (each f k j)) (drop (m * k) x)) e ∙ ap (λ (z : List B). take (m * k) x ++ z) (over_none (drop (m * k) x))
        ∙ take-append-drop (m * k) x)
