-- Laws of `first` and `some`. Assumes nothing.
use Prim.Native.Nat.{ℕ, zero, suc, ◌+◌, ◌-◌, ◌≤◌, ◌<◌}
use mathlib.Core.Path.{◌≡◌, refl, ap, sym, ◌∙◌}
use mathlib.Core.Bool.{Bool, true, false, not, cond}
use borrow.Author.Tests.{lt-ltb, le-ltb, ltb-true, ltb-false}
use lib.Dec.{ltb}
use native.Mathlib.Omega.{arith}
use native.Mathlib.Decide.{dec_le}
use native.Mathlib.Numerals.{add-one}
use Rattle.std.specs.Prelude.{Option, MatchOption, position}
use Rattle.std.specs.Prelude as std
use Rattle.std.specs.List.{position_or_len, range_with_len}
use Rattle.std.proofs.lemmas.List.FromFn.{length-range_with_len}
use Rattle.inspect.specs.First.{first, some}

-- the test is false of every number below n
abbrev pub Clear : (ℕ → Bool) → ℕ → Type 0
Clear test n = (k : ℕ) → k < n → test k ≡ false

pub clear_none : (test : ℕ → Bool) → Clear test 0
clear_none test k h = absurd (omega arith)

pub clear_more : (test : ℕ → Bool) (i : ℕ) → Clear test i → test i ≡ false → Clear test (i + 1)
clear_more test i before e k h = go (dec_le i k) where
  go : Dec (i ≤ k) → test k ≡ false
  go (yes l) = let n : k ≡ i = omega arith in rw n e
  go (no l) = before k (omega arith)

-- ---- where a search ends
pub first_found : (test : ℕ → Bool) (n i : ℕ) → i < n → Clear test i → test i ≡ true → i ≡ first test n
unfolding first
first_found test zero i h before e = absurd (omega arith)
first_found test (suc n) zero h before e = rw e
first_found test (suc n) (suc i) h before e =
    rw (before 0 (omega arith)) (ap suc (first_found (λ k. test (suc k)) n i (omega arith) (λ k l. before (suc k) (omega arith)) e))

pub first_none : (test : ℕ → Bool) (n : ℕ) → Clear test n → n ≡ first test n
unfolding first
first_none test zero before = refl
first_none test (suc n) before = rw (before 0 (omega arith)) (ap suc (first_none (λ k. test (suc k)) n (λ k l. before (suc k) (omega arith))))

-- ---- what the end of a search tells
pub first_clear : (test : ℕ → Bool) (n : ℕ) → Clear test (first test n)
unfolding first
first_clear test zero k h = absurd (omega arith)
first_clear test (suc n) k h = go (test 0) refl k h (λ k l. first_clear (λ k. test (suc k)) n k l) where
  go : (b : Bool) → test 0 ≡ b → (k : ℕ) → k < cond b 0 (suc (first (λ k. test (suc k)) n)) → Clear (λ k. test (suc k)) (first (λ k. test (suc k)) n) → test k ≡ false
  go true e k h later = absurd (omega arith)
  go false e zero h later = e
  go false e (suc k) h later = later k (omega arith)

first_at : (test : ℕ → Bool) (n : ℕ) → first test n < n → test (first test n) ≡ true
unfolding first
first_at test zero h = absurd (omega arith)
first_at test (suc n) h = go (test 0) refl h (λ l. first_at (λ k. test (suc k)) n l) where
  go : (b : Bool) → test 0 ≡ b → cond b 0 (suc (first (λ k. test (suc k)) n)) < suc n → (first (λ k. test (suc k)) n < n → test (suc (first (λ k. test (suc k)) n)) ≡ true)
      → test (cond b 0 (suc (first (λ k. test (suc k)) n))) ≡ true
  go true e h later = e
  go false e h later = later (omega arith)

-- `first` looks at a test only below its bound
pub first_same : (p q : ℕ → Bool) (n : ℕ) → ((k : ℕ) → k < n → p k ≡ q k) → first p n ≡ first q n
unfolding first
first_same p q zero same = refl
first_same p q (suc n) same = rw (same 0 (omega arith), first_same (λ k. p (suc k)) (λ k. q (suc k)) n (λ k l. same (suc k) (omega arith)))

-- ---- what std's search answers: that number, where there is one
abbrev pub place : (ℕ → Bool) → ℕ → Option ℕ
place test n = cond (ltb (first test n) n) (std.Some (first test n)) std.None

pub place_tells : (test : ℕ → Bool) (n : ℕ) (r : Option ℕ) → r ≡ place test n → MatchOption r (n ≤ first test n) (λ k. (k ≡ first test n) × (k < n))
place_tells test n r e = go (ltb (first test n) n) (ltb-true (first test n) n) (ltb-false (first test n) n) e where
  go : (b : Bool) → (b ≡ true → first test n < n) → (b ≡ false → n ≤ first test n) → r ≡ cond b (std.Some (first test n)) std.None → MatchOption r (n ≤ first test n) (λ k. (k ≡ first test n) × (k < n))
  go true t f e = rw e (refl, t refl)
  go false t f e = rw e (f refl)

pub place_found : (test : ℕ → Bool) (n k : ℕ) → k ≡ first test n → k < n → std.Some k ≡ place test n
place_found test n k e l = rw (← e, lt-ltb k n l)

pub place_none : (test : ℕ → Bool) (n : ℕ) → Clear test n → std.None ≡ place test n
place_none test n c = let e : n ≡ first test n = first_none test n c in rw (← e, le-ltb n n (omega arith))

-- of the numbers below n
first_from : (test : ℕ → Bool) (i n : ℕ) → first (λ k. test (i + k)) n ≡ position_or_len test (range_with_len i n)
unfolding first
first_from test i zero = refl
first_from test i (suc n) =
    let z : i + 0 ≡ i = omega arith in
    let s : first (λ k. test (i + suc k)) n ≡ first (λ k. test (i + 1 + k)) n = first_same (λ k. test (i + suc k)) (λ k. test (i + 1 + k)) n (λ k l. let m : i + suc k ≡ i + 1 + k = omega arith in rw m) in
    rw (z, s, first_from test (i + 1) n) (go (test i) (position_or_len test (range_with_len (i + 1) n)))
  where
    go : (b : Bool) (m : ℕ) → cond b 0 (suc m) ≡ cond (not b) (1 + m) 0
    go true m = refl
    go false m = omega arith

pub range_place : (test : ℕ → Bool) (n : ℕ) → position test (range_with_len 0 n) ≡ place test n
range_place test n =
    let e : first test n ≡ position_or_len test (range_with_len 0 n) =
    first_same test (λ k. test (0 + k)) n (λ k l. let z : 0 + k ≡ k = omega arith in rw z) ∙ first_from test 0 n in
    rw (← e, length-range_with_len)

-- ---- a search in parts: none before `base`, and then the search of the n from there on
module _ (test : ℕ → Bool) (base n : ℕ) (before : Clear test base) where
  in_part : (k : ℕ) → k ≡ first (λ j. test (base + j)) n → Clear test (base + k)
  in_part k e j l = go (dec_le base j) where
    go : Dec (base ≤ j) → test j ≡ false
    go (yes g) = let m : j ≡ base + (j - base) = omega arith in rw m (first_clear (λ j. test (base + j)) n (j - base) (omega arith))
    go (no g) = before j (omega arith)

  pub clear_part : std.None ≡ position (λ j. test (base + j)) (range_with_len 0 n) → Clear test (base + n)
  clear_part e j l =
      let h : n ≤ first (λ j. test (base + j)) n = place_tells (λ j. test (base + j)) n std.None (e ∙ range_place (λ j. test (base + j)) n) in
      in_part (first (λ j. test (base + j)) n) refl j (omega arith)

  pub first_part : (k count : ℕ) → base + n ≤ count → std.Some k ≡ position (λ j. test (base + j)) (range_with_len 0 n) → (k < n) × (std.Some (base + k) ≡ position test (range_with_len 0 count))
  first_part k count high e =
      let h = place_tells (λ j. test (base + j)) n (std.Some k) (e ∙ range_place (λ j. test (base + j)) n) in
      let l : base + k < count = omega (arith, h.1) in
      let at : test (base + k) ≡ true = rw h.0 (first_at (λ j. test (base + j)) n (rw h.0 at h.1)) in
      (h.1, place_found test count (base + k) (first_found test count (base + k) l (in_part k h.0) at) l ∙ sym (range_place test count))

-- ---- `some`
pub some_more : (test : ℕ → Bool) (n : ℕ) → some test (n + 1) ≡ cond (test n) true (some test n)
unfolding some
some_more test n = rw add-one

pub some_at : (test : ℕ → Bool) (n i : ℕ) → i < n → test i ≡ true → some test n ≡ true
unfolding some
some_at test zero i h e = absurd (omega arith)
some_at test (suc n) i h e = go (test n) refl (dec_le n i) (λ l. some_at test n i l e) where
  go : (b : Bool) → test n ≡ b → Dec (n ≤ i) → (i < n → some test n ≡ true) → cond b true (some test n) ≡ true
  go true f d later = refl
  go false f (yes l) later = let m : i ≡ n = omega arith in let b : test n ≡ true = rw (← m) e in let z : ◌≡◌ {A = ℕ} 0 1 = cc in absurd (omega arith)
  go false f (no l) later = later (omega arith)

pub some_clear : (test : ℕ → Bool) (n : ℕ) → Clear test n → some test n ≡ false
unfolding some
some_clear test zero h = refl
some_clear test (suc n) h = rw (h n (omega arith)) (some_clear test n (λ k l. h k (omega arith)))

-- a number of which the test is true
pub record Some (test : ℕ → Bool) (n : ℕ) : Type 0 where
  pub at : ℕ
  pub low : at < n
  pub is : test at ≡ true

pub some_is : (test : ℕ → Bool) (n : ℕ) → some test n ≡ true → Some test n
unfolding some
some_is test zero e = absurd (let z : ◌≡◌ {A = ℕ} 0 1 = cc in omega arith)
some_is test (suc n) e = go (test n) refl e (λ f. some_is test n f) where
  go : (b : Bool) → test n ≡ b → cond b true (some test n) ≡ true → (some test n ≡ true → Some test n) → Some test (suc n)
  go true f g later = record { at = n; low = omega arith; is = f }
  go false f g later = let s = later g in record { at = s.at; low = omega (arith, s.low); is = s.is }
