-- Marks, one number after the other. Assumes nothing.
use Prim.Native.Nat.{ℕ, zero, suc, ◌+◌, ◌-◌, ◌*◌, ◌/◌, ◌%◌, ◌^◌, ◌≤◌, ◌<◌}
use mathlib.Core.Path.{◌≡◌, refl, ap, sym, ◌∙◌}
use mathlib.Core.Bool.{Bool, true, false, not, cond}
use mathlib.Core.List.{List}
use native.Mathlib.Nat.{mod-lt, div-eq_of_lt, zero-div}
use native.Mathlib.Omega.{arith}
use native.Mathlib.Decide.{dec_le}
use lib.Arith.{lt_of_le-ne}
use lib.Bits.{bit_or, or_shr, or_mod, or_zero_r}
use lib.Dec.{eqb}
use lib.ListN.{length, get_or, set, length-set, replicate, length-replicate, get_or-replicate}
use lib.Pow.{pow-add, pow-lt, shl-shr, shl_exact}
use lib.Seq.{get_or-set_same, get_or-set_other}
use borrow.Author.Tests.{eq-eqb, ne_eqb, eqb-true, eqb-false}
use Rattle.std.specs.Prelude.{position}
use Rattle.std.specs.List.{range_with_len}
use Rattle.inspect.specs.Faults.{names, unnamed}
use Rattle.inspect.specs.First.{some}
use Rattle.inspect.specs.Marks.{marked, blank, MarkedOne, Marked, unnamed_from}
use Rattle.inspect.proofs.Firsts.{some_more, first_same, range_place}

-- ---- one bit of a word
own_bit : (r : ℕ) → 2 ^ r / 2 ^ r % 2 ≡ 1
own_bit r = let e : 2 ^ r ≡ 1 * 2 ^ r = omega arith in ap (λ (x : ℕ). x / 2 ^ r % 2) e ∙ ap (λ (x : ℕ). x % 2) (shl-shr 1 r)

other_bit : (r s : ℕ) → (r ≡ s → ⊥) → 2 ^ r / 2 ^ s % 2 ≡ 0
other_bit r s differ = go (dec_le r s) where
  go : Dec (r ≤ s) → 2 ^ r / 2 ^ s % 2 ≡ 0
  go (yes l) = let less : r < s = lt_of_le-ne l differ in ap (λ (x : ℕ). x % 2) (div-eq_of_lt (pow-lt less))
  go (no l) =
      let d = r - s - 1 in
      let e : r ≡ suc d + s = omega arith in
      ap (λ (x : ℕ). 2 ^ x / 2 ^ s % 2) e ∙ ap (λ (x : ℕ). x / 2 ^ s % 2) (pow-add 2 (suc d) s) ∙ ap (λ (x : ℕ). x % 2) (shl-shr (2 ^ suc d) s) ∙ omega arith

or_one : (x : ℕ) → x < 2 → bit_or x 1 ≡ 1
or_one zero h = refl
or_one (suc zero) h = refl
or_one (suc (suc x)) h = absurd (omega arith)

-- a word after its bit r is set, at the bit s
set_bit : (m r s : ℕ) → eqb (bit_or m (2 ^ r) / 2 ^ s % 2) 1 ≡ cond (eqb r s) true (eqb (m / 2 ^ s % 2) 1)
set_bit m r s = ap (λ (x : ℕ). eqb (x % 2) 1) (or_shr m (2 ^ r) s) ∙ ap (λ (x : ℕ). eqb x 1) (or_mod (m / 2 ^ s) (2 ^ r / 2 ^ s) 1) ∙ go (eqb r s) refl where
  go : (b : Bool) → eqb r s ≡ b → eqb (bit_or (m / 2 ^ s % 2) (2 ^ r / 2 ^ s % 2)) 1 ≡ cond b true (eqb (m / 2 ^ s % 2) 1)
  go true e = rw (eqb-true r s e, own_bit s, or_one (m / 2 ^ s % 2) (mod-lt (m / 2 ^ s) (omega arith)))
  go false e = rw (other_bit r s (eqb-false r s e), or_zero_r)

-- ---- the mark of one vertex
pub one_below : (base x : ℕ) (m : List ℕ) → x < base → MarkedOne base x m m
one_below base x m h = record { size = refl; marks = λ j l. rw (ne_eqb x (base + j) (λ e. omega arith)) }

pub one_above : (base x : ℕ) (m : List ℕ) → base ≤ x → length m ≤ (x - base) / 32 → MarkedOne base x m m
one_above base x m low h = record { size = refl; marks = λ j l. rw (ne_eqb x (base + j) (λ e. omega arith)) }

pub one_in : (base x : ℕ) (m : List ℕ) → base ≤ x → (x - base) / 32 < length m
    → MarkedOne base x m (set m ((x - base) / 32) (bit_or (get_or m ((x - base) / 32) 0) (1 * 2 ^ ((x - base) % 32) % 2 ^ 32)))
unfolding marked
one_in base x m low h = record { size = length-set m w v; marks = λ j l. go j (eqb w (j / 32)) refl } where
  w : ℕ
  w = (x - base) / 32

  r : ℕ
  r = (x - base) % 32

  v : ℕ
  v = bit_or (get_or m w 0) (1 * 2 ^ r % 2 ^ 32)

  v_is : v ≡ bit_or (get_or m w 0) (2 ^ r)
  v_is = ap (bit_or (get_or m w 0)) (shl_exact {a = 1} 1 r 32 (omega arith) (omega arith) ∙ omega arith)

  here : (j : ℕ) → w ≡ j / 32 → eqb r (j % 32) ≡ eqb x (base + j)
  here j e = go (eqb x (base + j)) refl where
    go : (b : Bool) → eqb x (base + j) ≡ b → eqb r (j % 32) ≡ b
    go true f = eq-eqb r (j % 32) (omega (arith, eqb-true x (base + j) f))
    go false f = ne_eqb r (j % 32) (λ g. eqb-false x (base + j) f (omega arith))

  go : (j : ℕ) → (b : Bool) → eqb w (j / 32) ≡ b
      → eqb (get_or (set m w v) (j / 32) 0 / 2 ^ (j % 32) % 2) 1 ≡ cond (eqb x (base + j)) true (eqb (get_or m (j / 32) 0 / 2 ^ (j % 32) % 2) 1)
  go j true e =
      let same = eqb-true w (j / 32) e in
      rw (← same, get_or-set_same m w v 0 h, v_is, set_bit (get_or m w 0) r (j % 32), here j same)
  go j false e =
      let other = eqb-false w (j / 32) e in
      rw (get_or-set_other m w (j / 32) v 0 (λ k. other (sym k)), ne_eqb x (base + j) (λ k. other (omega arith)))

-- ---- a pass over the list
pub marked_none : (base : ℕ) (l m : List ℕ) → Marked base l 0 m m
unfolding some
marked_none base l m = record { size = refl; marks = λ j h. refl }

pub marked_more : (base : ℕ) (l : List ℕ) (n : ℕ) (m₀ m m' : List ℕ) (x : ℕ) → x ≡ get_or l n 0 → Marked base l n m₀ m → MarkedOne base x m m' → Marked base l (n + 1) m₀ m'
unfolding names
marked_more base l n m₀ m m' x e so one =
    record {
      size = one.size ∙ so.size;
      marks = λ j h. rw (some_more, ← e) (one.marks j (omega (arith, so.size)) ∙ rw (so.marks j h) (go (eqb x (base + j)) (some (names l (base + j)) n) (marked m₀ j)));
    } where
      go : (b c x : Bool) → cond b true (cond c true x) ≡ cond (cond b true c) true x
      go true c x = refl
      go false c x = refl

pub marked_all : (base : ℕ) (l : List ℕ) (i : ℕ) (m₀ m : List ℕ) → i ≤ length l → length l ≤ i → Marked base l i m₀ m → Marked base l (length l) m₀ m
marked_all base l i m₀ m low high so = let e : length l ≡ i = omega arith in rw e so

-- where no mark was there, one is missing exactly where the vertex is unnamed
pub blank_is : (base : ℕ) (l : List ℕ) (w : ℕ) (m : List ℕ) (n : ℕ) → n ≤ 32 * w → Marked base l (length l) (replicate w 0) m → position (blank m) (range_with_len 0 n) ≡ position (unnamed_from base l) (range_with_len 0 n)
unfolding marked unnamed
blank_is base l w m n h so = rw (range_place (blank m) n, range_place (unnamed_from base l) n, first_same (blank m) (unnamed_from base l) n (λ k g. at k (omega arith))) where
  none : (k : ℕ) → k < 32 * w → marked (replicate w 0) k ≡ false
  none k g = rw (get_or-replicate {A = ℕ} w (k / 32) 0 0 (omega arith), zero-div (2 ^ (k % 32)))

  at : (k : ℕ) → k < 32 * w → blank m k ≡ unnamed_from base l k
  at k g = rw (so.marks k (rw length-replicate g), none k g) (go (some (names l (base + k)) (length l))) where
    go : (b : Bool) → not (cond b true false) ≡ not b
    go true = refl
    go false = refl

-- ---- what `is_blank` sees
pub is_blank_lem : (m : List ℕ) (i : ℕ) → eqb (get_or m (i / 32) 0 / 2 ^ (i % 32) % 2) 0 ≡ blank m i
unfolding marked
is_blank_lem m i = bit (get_or m (i / 32) 0 / 2 ^ (i % 32) % 2) (mod-lt (get_or m (i / 32) 0 / 2 ^ (i % 32)) (omega arith)) where
  bit : (x : ℕ) → x < 2 → eqb x 0 ≡ not (eqb x 1)
  bit zero h = refl
  bit (suc zero) h = refl
  bit (suc (suc x)) h = absurd (omega arith)
