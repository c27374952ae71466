-- Laws of digits that are counted and put from the back. Assumes nothing.
use Prim.Native.Nat.{ℕ, zero, suc, ◌+◌, ◌-◌, ◌*◌, ◌/◌, ◌%◌, ◌^◌, ◌≤◌, ◌<◌}
use mathlib.Core.Path.{◌≡◌, refl, sym, ap, ◌∙◌}
use mathlib.Core.Bool.{Bool, true, false, ◌&&◌, false≢true}
use mathlib.Core.List.{List, [], ◌∷◌, ◌++◌}
use native.Mathlib.Omega.{arith}
use native.Mathlib.Decide.{dec_le}
use native.Mathlib.Nat.{lt_of_lt_of_le, lt_of_not-le, pow-suc, one-le-pow, div-lt_iff_lt-mul, le-div_iff_mul-le}
use lib.Dec.{eqb, lit<, lit≤}
use lib.ListN.{length, get_or, set, length-append, length-set}
use borrow.Author.Tests.{lt-ltb, le-ltb, eqb-true}
use Rattle.std.proofs.Common.{Option, Some, None, IfSome, IfNone}
use Rattle.std.specs.Option.{unwrap_or}
use Rattle.lines.specs.Digits.{glyph_of, digits_of, places_up_to, decimal_of}
use Rattle.lists.specs.Over.{over}

pub glyph_low : (d : ℕ) → d < 10 → 48 + d ≡ glyph_of d
unfolding glyph_of
glyph_low d h = rw (lt-ltb d 10 h)

pub glyph_high : (d : ℕ) → 10 ≤ d → 65 + (d - 10) ≡ glyph_of d
unfolding glyph_of
glyph_high d h = rw (le-ltb d 10 h)

-- the table of the glyphs, which are few enough to be looked at one by one
abbrev table : List ℕ
table = 48 ∷ 49 ∷ 50 ∷ 51 ∷ 52 ∷ 53 ∷ 54 ∷ 55 ∷ 56 ∷ 57 ∷ 65 ∷ 66 ∷ 67 ∷ 68 ∷ 69 ∷ 70 ∷ []

each_below : (ℕ → Bool) → ℕ → Bool
each_below p zero = true
each_below p (suc n) = p n && each_below p n

each_at : (p : ℕ → Bool) (n d : ℕ) → each_below p n ≡ true → d < n → p d ≡ true
unfolding each_below
each_at p zero d e h = absurd (omega arith)
each_at p (suc n) d e h = go (dec_le n d) (p n) refl e (each_at p n d)
  where
    go : Dec (n ≤ d) → (t : Bool) → p n ≡ t → t && each_below p n ≡ true → (each_below p n ≡ true → d < n → p d ≡ true) → p d ≡ true
    go (yes k) true q e r = let z : d ≡ n = omega arith in rw z q
    go (no f) true q e r = r e (lt_of_not-le f)
    go k false q e r = absurd (false≢true e)

pub glyph_at : (d : ℕ) → d < 16 → get_or table d 0 ≡ glyph_of d
unfolding each_below glyph_of
glyph_at d h = eqb-true (get_or table d 0) (glyph_of d) (each_at (λ d. eqb (get_or table d 0) (glyph_of d)) 16 d refl h)

-- ---- the digits, the last first

pub digits_length : (base k n : ℕ) → length (digits_of base k n) ≡ k
unfolding digits_of
digits_length base zero n = refl
digits_length base (suc k) n = length-append (digits_of base k (n / base)) (glyph_of (n % base) ∷ []) ∙ rw (digits_length base k (n / base)) (omega arith)

pub over_snoc : {A : Type 0} (vs : List A) (a : A) (xs : List A) → length vs < length xs → over (vs ++ (a ∷ [])) xs ≡ over vs (set xs (length vs) a)
unfolding over
over_snoc vs a [] h = absurd (omega arith)
over_snoc [] a (x ∷ xs) h = refl
over_snoc {A} (v ∷ vs) a (x ∷ xs) h = ap (λ (l : List A). v ∷ l) (over_snoc vs a xs (omega arith))

-- of k digits of n, i are still to be put, those of rest
pub record Putting (base k n : ℕ) (before now : List ℕ) (i rest : ℕ) : Type 0 where
  pub inside : i ≤ length now
  pub same : length now ≡ length before
  pub still : over (digits_of base k n) before ≡ over (digits_of base i rest) now

pub putting_starts : (base k n : ℕ) (before : List ℕ) → k ≤ length before → Putting base k n before before k n
putting_starts base k n before h = record { inside = h; same = refl; still = refl }

module _ {base k n : ℕ} {before now : List ℕ} {i rest : ℕ} (p : Putting base k n before now i rest) where
  pub putting_goes : (g : ℕ) → 0 < i → g ≡ glyph_of (rest % base) → Putting base k n before (set now (i - 1) g) (i - 1) (rest / base)
  unfolding digits_of
  putting_goes g h e =
      let vs : List ℕ = digits_of base (i - 1) (rest / base) in
      let l : length vs ≡ i - 1 = digits_length base (i - 1) (rest / base) in
      let s : i ≡ suc (i - 1) = omega arith in
      let m : length vs < length now = omega (arith, p.inside) in
      record {
        inside = rw (length-set now (i - 1) g) (omega (arith, p.inside));
        same = length-set now (i - 1) g ∙ p.same;
        still = p.still ∙ ap (λ (j : ℕ). over (digits_of base j rest) now) s ∙ over_snoc vs (glyph_of (rest % base)) now m ∙ rw (l, ← e);
      }

  pub putting_ends : i ≤ 0 → now ≡ over (digits_of base k n) before
  unfolding digits_of over
  putting_ends h = let z : i ≡ 0 = omega arith in sym (p.still ∙ ap (λ (j : ℕ). over (digits_of base j rest) now) z)

-- ---- how many there are

-- without its last digit a number takes one digit fewer
pub one_fewer : (base k n : ℕ) → 0 < base → n < base ^ suc k → n / base < base ^ k
one_fewer base k n b h = (div-lt_iff_lt-mul b).1 (rw (← pow-suc base k) h)

pub places_one : (k n : ℕ) → n < 10 → places_up_to k n ≡ 1
unfolding places_up_to
places_one zero n h = refl
places_one (suc k) n h = rw (lt-ltb n 10 h)

pub places_more : (k n : ℕ) → 10 ≤ n → places_up_to (suc k) n ≡ suc (places_up_to k (n / 10))
unfolding places_up_to
places_more k n h = rw (le-ltb n 10 h)

pub places_few : (k j n : ℕ) → n < 10 ^ suc j → places_up_to k n ≤ suc j
unfolding places_up_to
places_few zero j n h = omega arith
places_few (suc k) j n h = go (dec_le 10 n) j h (λ i. places_few k i (n / 10))
  where
    go : Dec (10 ≤ n) → (j : ℕ) → n < 10 ^ suc j → ((i : ℕ) → n / 10 < 10 ^ suc i → places_up_to k (n / 10) ≤ suc i) → places_up_to (suc k) n ≤ suc j
    go (no f) j h p = let l : n < 10 = lt_of_not-le f in rw (places_one (suc k) n l) (omega arith)
    go (yes m) zero h p = absurd (omega arith)
    go (yes m) (suc j) h p = rw (places_more k n m) (omega (arith, p j (one_fewer 10 (suc j) n (lit< tt) h)))

-- a number of 16 bits has five digits at most
pub decimal_few : (n : ℕ) → n < 65536 → length (decimal_of n) ≤ 5
unfolding decimal_of
decimal_few n h = rw (digits_length 10 (places_up_to 19 n) n) (places_few 19 4 n (lt_of_lt_of_le h (lit≤ tt)))

-- a number from 10 ^ j on and below ten times that has one digit more than j
pub places_power : (k j n : ℕ) → 10 ^ j ≤ n → n < 10 * 10 ^ j → j ≤ k → places_up_to k n ≡ j + 1
places_power k zero n l h b = places_one k n (omega arith)
places_power zero (suc j) n l h b = absurd (omega arith)
places_power (suc k) (suc j) n l h b =
    let s = pow-suc 10 j in
    let t = one-le-pow j 10 (lit< tt) in
    let m : 10 ≤ n = omega arith in
    let q : 10 ^ j ≤ n / 10 = (le-div_iff_mul-le (lit< tt)).1 (rw (← s) l) in
    let r : n / 10 < 10 * 10 ^ j = (div-lt_iff_lt-mul (lit< tt)).1 (omega arith) in
    places_more k n m ∙ rw (places_power k j (n / 10) q r (omega arith)) (omega arith)

-- the logarithm to the base 10 counts them
pub places_log : (o : Option ℕ) (n : ℕ) → IfNone o (n ≡ 0) → IfSome o (λ k. 10 ^ k ≤ n) → IfSome o (λ k. n < 10 * 10 ^ k) → IfSome o (λ k. k < 20) → unwrap_or o 0 + 1 ≡ places_up_to 19 n
places_log None n z l h b = sym (places_one 19 n (omega arith))
places_log (Some k) n z l h b = sym (places_power 19 k n l h (omega arith))
