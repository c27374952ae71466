-- Laws of `up_to_space`: how far it goes, and how a scan from a place finds its end. Assumes nothing.
use Prim.Native.Nat.{ℕ, zero, suc, ◌+◌, ◌-◌, ◌≤◌, ◌<◌}
use mathlib.Core.Path.{◌≡◌, refl, sym, ap, ◌∙◌}
use mathlib.Core.Bool.{Bool, true, false, cond}
use mathlib.Core.List.{List, [], ◌∷◌}
use native.Mathlib.Decide.{dec_le}
use native.Mathlib.Nat.{lt_of_not-le}
use native.Mathlib.Omega.{arith}
use lib.Dec.{eqb, ltb}
use lib.ListN.{length, take, drop, length-drop}
use lib.Seq.{take_all}
use borrow.Author.Tests.{lt-ltb, le-ltb}
use Rattle.std.proofs.Common.{Option, Some, None, Ok, Err, nat_eq, position, option_map}
use Rattle.std.specs.Option.{unwrap_or}
use Rattle.std.proofs.lemmas.List.Recursion.{is_position_or_len}
use Rattle.lines.specs.Words.{up_to_space, word_at, rest_at, place_after, pick_place, lost}
use Rattle.lines.specs.declared.words.BadLine.{BadLine}

pub upto_length : (s : List ℕ) → length (up_to_space s) ≤ length s
unfolding up_to_space
upto_length [] = omega arith
upto_length (b ∷ s) = go (eqb b 32) (upto_length s)
  where
    go : (t : Bool) → length (up_to_space s) ≤ length s → length (cond t [] (b ∷ up_to_space s)) ≤ suc (length s)
    go true h = omega arith
    go false h = omega arith

-- they are the text's first bytes
pub take_upto : (s : List ℕ) → take (length (up_to_space s)) s ≡ up_to_space s
unfolding up_to_space
take_upto [] = refl
take_upto (b ∷ s) = go (eqb b 32) (take_upto s)
  where
    go : (t : Bool) → take (length (up_to_space s)) s ≡ up_to_space s → take (length (cond t [] (b ∷ up_to_space s))) (b ∷ s) ≡ cond t [] (b ∷ up_to_space s)
    go true e = refl
    go false e = ap (λ (l : List ℕ). b ∷ l) e

-- where the first space is
pub space_at : (s : List ℕ) → position (λ b. nat_eq b 32) s ≡ cond (ltb (length (up_to_space s)) (length s)) (Some (length (up_to_space s))) None
unfolding up_to_space
space_at s = rw (← is_position_or_len (λ (t : List ℕ). length (up_to_space t)) (λ b. nat_eq b 32) refl next s) refl
  where
    next : (b : ℕ) (t : List ℕ) → length (up_to_space (b ∷ t)) ≡ cond (nat_eq b 32) 0 (1 + length (up_to_space t))
    next b t = go (eqb b 32)
      where
        go : (v : Bool) → length (cond v [] (b ∷ up_to_space t)) ≡ cond v 0 (1 + length (up_to_space t))
        go true = refl
        go false = omega arith

-- ---- the word at a place

-- of a line the bytes from i on: n of them stand before the first space, which is at e
module _ (s : List ℕ) (i : ℕ) (e : Option ℕ) (n : ℕ)
    (at : e ≡ position (λ b. nat_eq b 32) (take (length s - i) (drop i s)))
    (long : n ≡ unwrap_or e (length (take (length s - i) (drop i s)))) where
  rest : take (length s - i) (drop i s) ≡ drop i s
  rest = take_all (length s - i) (drop i s) (omega (arith, length-drop i s))

  space : e ≡ cond (ltb (length (up_to_space (drop i s))) (length (drop i s))) (Some (length (up_to_space (drop i s)))) None
  space = at ∙ rw rest (space_at (drop i s))

  before : (m l : ℕ) → m ≤ l → unwrap_or (cond (ltb m l) (Some m) None) l ≡ m
  before m l h = go (dec_le l m)
    where
      go : Dec (l ≤ m) → unwrap_or (cond (ltb m l) (Some m) None) l ≡ m
      go (yes k) = rw (le-ltb m l k) (omega arith)
      go (no f) = let k : m < l = lt_of_not-le f in rw (lt-ltb m l k)

  -- they are the word
  word_length : n ≡ length (up_to_space (drop i s))
  word_length = long ∙ rw (space, rest) (before (length (up_to_space (drop i s))) (length (drop i s)) (upto_length (drop i s)))

  pub word_is : take n (take (length s - i) (drop i s)) ≡ word_at s (Some i)
  unfolding word_at
  word_is = rw (rest, word_length) (take_upto (drop i s))

  long_is : length (take n (take (length s - i) (drop i s))) ≡ length (up_to_space (drop i s))
  unfolding word_at
  long_is = ap (λ (l : List ℕ). length l) word_is

  pub none_is : length (take n (take (length s - i) (drop i s))) ≡ 0 → rest_at s (Some i) ≡ Err lost
  unfolding rest_at
  none_is h = rw (sym long_is ∙ h)

  pub next_is : (length (take n (take (length s - i) (drop i s))) ≡ 0 → ⊥) → rest_at s (Some i) ≡ Ok (option_map (λ k. i + k + 1) e)
  unfolding rest_at
  next_is k = go (length (up_to_space (drop i s))) refl
    where
      past : (m : ℕ) → pick_place (ltb (i + m) (length s)) (Some (i + m + 1)) None ≡ option_map (λ k. i + k + 1) (cond (ltb m (length (drop i s))) (Some m) None)
      past m = at_end (dec_le (length (drop i s)) m)
        where
          at_end : Dec (length (drop i s) ≤ m) → pick_place (ltb (i + m) (length s)) (Some (i + m + 1)) None ≡ option_map (λ k. i + k + 1) (cond (ltb m (length (drop i s))) (Some m) None)
          at_end (yes h) = let l : length s ≤ i + m = omega (arith, length-drop i s) in rw (le-ltb m (length (drop i s)) h, le-ltb (i + m) (length s) l)
          at_end (no f) =
              let h : m < length (drop i s) = lt_of_not-le f in
              let l : i + m < length s = omega (arith, length-drop i s) in
              rw (lt-ltb m (length (drop i s)) h, lt-ltb (i + m) (length s) l)

      go : (m : ℕ) → length (up_to_space (drop i s)) ≡ m → place_after s i (length (up_to_space (drop i s))) ≡ Ok (option_map (λ k. i + k + 1) e)
      go zero l = absurd (k (long_is ∙ l))
      go (suc m) l = rw (space, l) (ap (λ (p : Option ℕ). Ok p) (past (suc m)))

-- where there is no word, none is read
pub none_left : (s : List ℕ) (p : Option ℕ) (e : BadLine) → rest_at s p ≡ Err e → word_at s p ≡ []
unfolding rest_at word_at
none_left s None e h = refl
none_left s (Some i) e h = go (up_to_space (drop i s)) h
  where
    go : (w : List ℕ) → place_after s i (length w) ≡ Err e → w ≡ []
    go [] h = refl
    go (b ∷ w) h = cc
