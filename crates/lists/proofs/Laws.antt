-- Laws of `over` and `put_at`: the length is kept, and lists one behind the other are written in turn, however long they are. In this order: at the start of a list,
-- from a place on, and the same of lists that are spelt. Assumes nothing.
use Prim.Native.Nat.{ℕ, zero, suc, ◌+◌, ◌*◌, ◌≤◌, ◌<◌}
use mathlib.Core.Path.{◌≡◌, refl, ap}
use mathlib.Core.List.{List, [], ◌∷◌, ◌++◌, append_assoc}
use native.Mathlib.Omega.{arith}
use lib.ListN.{length, take, drop, set, length-append}
use Rattle.lists.specs.Over.{over, put_at, flat}

module _ {A : Type 0} where
  pub over_none : (xs : List A) → over [] xs ≡ xs
  unfolding over
  over_none xs = refl

  pub length_over : (vs xs : List A) → length (over vs xs) ≡ length xs
  unfolding over
  length_over [] xs = refl
  length_over (v ∷ vs) [] = refl
  length_over (v ∷ vs) (x ∷ xs) = ap suc (length_over vs xs)

  over_nil : (vs : List A) → [] ≡ over vs []
  unfolding over
  over_nil [] = refl
  over_nil (v ∷ vs) = refl

  -- one element more
  pub over_next : (vs : List A) (v : A) (xs : List A) → length vs < length xs → set (over vs xs) (length vs) v ≡ over (vs ++ (v ∷ [])) xs
  unfolding over
  over_next [] v [] h = refl
  over_next [] v (x ∷ xs) h = refl
  over_next (u ∷ vs) v [] h = refl
  over_next (u ∷ vs) v (x ∷ xs) h = ap (λ (l : List A). u ∷ l) (over_next vs v xs (omega arith))

  -- what a writer of one to six elements leaves
  pub over_one : (a : A) (xs : List A) → 1 ≤ length xs → set xs 0 a ≡ over (a ∷ []) xs
  unfolding over
  over_one a xs h = over_next [] a xs h

  pub over_two : (a b : A) (xs : List A) → 2 ≤ length xs → set (set xs 0 a) 1 b ≡ over (a ∷ b ∷ []) xs
  over_two a b xs h = rw (over_one a xs (omega arith), over_next (a ∷ []) b xs h)

  pub over_three : (a b c : A) (xs : List A) → 3 ≤ length xs → set (set (set xs 0 a) 1 b) 2 c ≡ over (a ∷ b ∷ c ∷ []) xs
  over_three a b c xs h = rw (over_two a b xs (omega arith), over_next (a ∷ b ∷ []) c xs h)

  pub over_four : (a b c d : A) (xs : List A) → 4 ≤ length xs → set (set (set (set xs 0 a) 1 b) 2 c) 3 d ≡ over (a ∷ b ∷ c ∷ d ∷ []) xs
  over_four a b c d xs h = rw (over_three a b c xs (omega arith), over_next (a ∷ b ∷ c ∷ []) d xs h)

  pub over_five : (a b c d e : A) (xs : List A) → 5 ≤ length xs → set (set (set (set (set xs 0 a) 1 b) 2 c) 3 d) 4 e ≡ over (a ∷ b ∷ c ∷ d ∷ e ∷ []) xs
  over_five a b c d e xs h = rw (over_four a b c d xs (omega arith), over_next (a ∷ b ∷ c ∷ d ∷ []) e xs h)

  pub over_six : (a b c d e f : A) (xs : List A) → 6 ≤ length xs → set (set (set (set (set (set xs 0 a) 1 b) 2 c) 3 d) 4 e) 5 f ≡ over (a ∷ b ∷ c ∷ d ∷ e ∷ f ∷ []) xs
  over_six a b c d e f xs h = rw (over_five a b c d e xs (omega arith), over_next (a ∷ b ∷ c ∷ d ∷ e ∷ []) f xs h)

  -- two lists one behind the other
  pub over_append : (vs ws xs : List A) → length vs ≤ length xs → over (vs ++ ws) xs ≡ take (length vs) (over vs xs) ++ over ws (drop (length vs) (over vs xs))
  unfolding over
  over_append [] ws xs h = refl
  over_append (v ∷ vs) ws [] h = absurd (omega arith)
  over_append (v ∷ vs) ws (x ∷ xs) h = ap (λ (l : List A). v ∷ l) (over_append vs ws xs (omega arith))

  -- what is written is at the start, and nothing behind it is changed
  pub take_over : (vs xs : List A) → length vs ≤ length xs → take (length vs) (over vs xs) ≡ vs
  unfolding over
  take_over [] xs h = refl
  take_over (v ∷ vs) [] h = absurd (omega arith)
  take_over (v ∷ vs) (x ∷ xs) h = ap (λ (l : List A). v ∷ l) (take_over vs xs (omega arith))

  pub drop_over : (vs xs : List A) → drop (length vs) (over vs xs) ≡ drop (length vs) xs
  unfolding over
  drop_over [] xs = refl
  drop_over (v ∷ vs) [] = refl
  drop_over (v ∷ vs) (x ∷ xs) = drop_over vs xs

  -- ---- from a place on
  pub put_start : (vs xs : List A) → put_at 0 vs xs ≡ over vs xs
  unfolding put_at
  put_start vs xs = refl

  pub put_none : (k : ℕ) (xs : List A) → put_at k [] xs ≡ xs
  unfolding put_at over
  put_none zero xs = refl
  put_none (suc k) [] = refl
  put_none (suc k) (x ∷ xs) = ap (λ (l : List A). x ∷ l) (put_none k xs)

  pub length_put : (k : ℕ) (vs xs : List A) → length (put_at k vs xs) ≡ length xs
  unfolding put_at
  length_put zero vs xs = length_over vs xs
  length_put (suc k) vs [] = refl
  length_put (suc k) vs (x ∷ xs) = ap suc (length_put k vs xs)

  put_over : (vs ws xs : List A) → put_at (length vs) ws (over vs xs) ≡ over (vs ++ ws) xs
  unfolding put_at over
  put_over [] ws xs = refl
  put_over (v ∷ vs) ws [] = refl
  put_over (v ∷ vs) ws (x ∷ xs) = ap (λ (l : List A). v ∷ l) (put_over vs ws xs)

  -- vs at k, and ws behind them
  pub put_append : (k : ℕ) (vs ws xs : List A) → put_at (k + length vs) ws (put_at k vs xs) ≡ put_at k (vs ++ ws) xs
  unfolding put_at
  put_append zero vs ws xs = let e : 0 + length vs ≡ length vs = omega arith in rw e (put_over vs ws xs)
  put_append (suc k) vs ws [] = let e : suc k + length vs ≡ suc (k + length vs) = omega arith in rw e
  put_append (suc k) vs ws (x ∷ xs) = let e : suc k + length vs ≡ suc (k + length vs) = omega arith in rw e (ap (λ (l : List A). x ∷ l) (put_append k vs ws xs))

  pub put_is_over : (k : ℕ) (vs xs : List A) → put_at k vs xs ≡ take k xs ++ over vs (drop k xs)
  unfolding put_at
  put_is_over zero vs xs = refl
  put_is_over (suc k) vs [] = over_nil vs
  put_is_over (suc k) vs (x ∷ xs) = ap (λ (l : List A). x ∷ l) (put_is_over k vs xs)

-- ---- spelt lists
module _ {A B : Type 0} (f : A → List B) where
  pub flat_append : (xs ys : List A) → flat f (xs ++ ys) ≡ flat f xs ++ flat f ys
  unfolding flat
  flat_append [] ys = refl
  flat_append (x ∷ xs) ys = rw (flat_append xs ys, append_assoc)

  -- vs at k, each spelt by n, and ws behind them
  module _ (n : ℕ) (size : (x : A) → length (f x) ≡ n) where
    pub length_flat : (xs : List A) → length (flat f xs) ≡ n * length xs
    unfolding flat
    length_flat [] = omega arith
    length_flat (x ∷ xs) = rw (length-append, size x, length_flat xs) (go n (length xs))
      where
        go : (n m : ℕ) → n + n * m ≡ n * suc m
        go n m = omega arith

    pub put_flat : (k : ℕ) (vs ws : List A) (xs : List B) → put_at (n * (k + length vs)) (flat f ws) (put_at (n * k) (flat f vs) xs) ≡ put_at (n * k) (flat f (vs ++ ws)) xs
    put_flat k vs ws xs =
        let e : n * (k + length vs) ≡ n * k + length (flat f vs) = rw (length_flat vs) (omega arith) in
        rw (e, flat_append vs ws) (put_append (n * k) (flat f vs) (flat f ws) xs)
