-- Numbers copied one by one, and the first that is too large to be. Assumes nothing.
use Prim.Native.Nat.{ℕ, suc, ◌+◌, ◌≤◌, ◌<◌}
use mathlib.Core.Path.{◌≡◌, refl, sym, ap, ◌∙◌}
use mathlib.Core.Bool.{Bool, true, false, cond}
use mathlib.Core.List.{List, [], ◌∷◌, ◌++◌, map}
use native.Mathlib.Numerals.{add-one}
use native.Mathlib.Omega.{arith}
use borrow.Author.Tests.{lt-ltb, le-ltb, ltb-true, ltb-false}
use lib.Dec.{ltb}
use lib.ListN.{length, take, get_or, set}
use lib.Seq.{length-take-le, take-suc}
use Rattle.std.specs.Prelude.{Option, Some, None, MatchOption, position}
use Rattle.std.specs.List.{position_or_len}
use Rattle.std.proofs.lemmas.List.Recursion.{is_position_or_len}
use Rattle.std.proofs.lemmas.List.Sums.{position_or_len_is}
use Rattle.lists.specs.Over.{over}
use Rattle.lists.proofs.Laws.{over_next}
use Rattle.widths.specs.Back.{AreNarrow}
use Rattle.widths.specs.Widths.{narrow_most, first_wide}

-- ---- of xs, i are written over ys: one more
pub over_more : {A : Type 0} (xs ys : List A) (i : ℕ) (x : A) → i < length xs → length xs ≤ length ys → get_or xs i x ≡ x → set (over (take i xs) ys) i x ≡ over (take (i + 1) xs) ys
over_more {A} xs ys i x l h e =
    let s : length (take i xs) ≡ i = length-take-le i xs (omega arith) in
    let r : length (take i xs) < length ys = omega arith in
    ap (λ (k : ℕ). set (over (take i xs) ys) k x) (sym s)
    ∙ over_next (take i xs) x ys r
    ∙ ap (λ (w : List A). over w ys) (ap (λ (y : A). take i xs ++ (y ∷ [])) (sym e) ∙ sym (take-suc xs i x l) ∙ ap (λ (k : ℕ). take k xs) (sym (add-one i)))

pub map_same : (xs : List ℕ) → map (λ x. x) xs ≡ xs
map_same [] = refl
map_same (x ∷ xs) = ap (λ (l : List ℕ). x ∷ l) (map_same xs)

-- ---- where std's search ends: the test is false of the first i
module _ {A : Type 0} (test : A → Bool) (xs : List A) (i : ℕ) (d : A) (before : (k : ℕ) → k < i → test (get_or xs k d) ≡ false) where
  pub found_at : i < length xs → test (get_or xs i d) ≡ true → Some i ≡ position test xs
  found_at h e = rw (position_or_len_is test xs i d (omega arith) before (λ l. e), lt-ltb i (length xs) h)

  pub found_none : i ≤ length xs → length xs ≤ i → None ≡ position test xs
  found_none l h = rw (position_or_len_is test xs i d l before (λ m. absurd (omega arith)), le-ltb i (length xs) h)

-- ---- the first that is too large, as std finds it
pub first_where : (xs : List ℕ) (r : Option ℕ) → r ≡ position (ltb narrow_most) xs → MatchOption r (length xs ≤ first_wide xs) (λ i. (i ≡ first_wide xs) × (i < length xs))
unfolding first_wide
first_where xs r e = go (ltb (first_wide xs) (length xs)) (ltb-true (first_wide xs) (length xs)) (ltb-false (first_wide xs) (length xs)) (rw (← same) at e)
  where
    same : first_wide xs ≡ position_or_len (ltb narrow_most) xs
    same = is_position_or_len first_wide (ltb narrow_most) refl (λ x xs. let e : suc (first_wide xs) ≡ 1 + first_wide xs = omega arith in ap (λ (n : ℕ). cond (ltb narrow_most x) 0 n) e) xs

    go : (b : Bool) → (b ≡ true → first_wide xs < length xs) → (b ≡ false → length xs ≤ first_wide xs) → r ≡ cond b (Some (first_wide xs)) None
        → MatchOption r (length xs ≤ first_wide xs) (λ i. (i ≡ first_wide xs) × (i < length xs))
    go true t f e = rw e (refl, t refl)
    go false t f e = rw e (f refl)

-- ---- where none is, a u16 holds each
pub all_narrow : (xs : List ℕ) → length xs ≤ first_wide xs → AreNarrow xs
unfolding first_wide
all_narrow [] h = tt
all_narrow (x ∷ xs) h = go (ltb narrow_most x) (ltb-false narrow_most x) h (all_narrow xs)
  where
    go : (b : Bool) → (b ≡ false → x ≤ narrow_most) → suc (length xs) ≤ cond b 0 (suc (first_wide xs)) → (length xs ≤ first_wide xs → AreNarrow xs) → (x < 65536) × AreNarrow xs
    go true n h f = absurd (omega arith)
    go false n h f = let m = n refl in (omega arith, f (omega arith))

pub none_wide : (xs : List ℕ) → AreNarrow xs → first_wide xs ≡ length xs
unfolding first_wide
none_wide [] a = refl
none_wide (x ∷ xs) a = let m : x ≤ narrow_most = omega (arith, a.0) in rw (le-ltb narrow_most x m, none_wide xs a.1)
