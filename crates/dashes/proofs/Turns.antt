-- The list taken twice over. Number i of the even list is number i of the list itself, and as even as i: the first, since a remainder by twice n has the
-- remainder by n of what it is of; the second, since twice n is even. Assumes nothing.
use Prim.Native.Nat.{ℕ, ◌+◌, ◌-◌, ◌*◌, ◌%◌, ◌≤◌, ◌<◌}
use mathlib.Core.Path.{◌≡◌, refl, sym, ap, ◌∙◌}
use mathlib.Core.Bool.{Bool, true, false, cond}
use mathlib.Core.List.{List, ◌++◌}
use native.Mathlib.Decide.{dec_le}
use native.Mathlib.Nat.{mod-lt, mod-eq_of_lt, mod-eq-sub-mod, mod-mod_of_dvd, dvd-mul_left, dvd-mul_right, dvd_of_mod-eq-zero, lt_of_not-le}
use native.Mathlib.Omega.{arith}
use lib.Dec.{T, eqb, eqb→eq}
use lib.Ieee.{Float, nan}
use lib.ListN.{length, get_or, length-append, get_or-append}
use lib.Seq.{get_or-append-add}
use Rattle.dashes.specs.Pattern.{even_of, length_at, is_dash}

module _ (ds : List Float) (i : ℕ) (some : 0 < length ds) where
  abbrev n : ℕ
  n = length ds

  twice : length (ds ++ ds) ≡ 2 * n
  twice = simp length-append (omega arith)

  -- in a list and the same again
  again : (k : ℕ) → k < 2 * n → get_or (ds ++ ds) k nan ≡ get_or ds (k % n) nan
  again k h = go (dec_le n k)
    where
      go : Dec (n ≤ k) → get_or (ds ++ ds) k nan ≡ get_or ds (k % n) nan
      go (no f) =
          let l : k < n = lt_of_not-le f in
          get_or-append ds ds nan k l ∙ ap (λ (j : ℕ). get_or ds j nan) (sym (mod-eq_of_lt l))
      go (yes l) =
          let e : n + (k - n) ≡ k = omega arith in
          let r : k % n ≡ k - n = mod-eq-sub-mod l ∙ mod-eq_of_lt (omega arith) in
          ap (λ (j : ℕ). get_or (ds ++ ds) j nan) (sym e) ∙ get_or-append-add ds ds (k - n) nan ∙ ap (λ (j : ℕ). get_or ds j nan) (sym r)

  pub length_at_lem : length_at ds i ≡ get_or ds (i % n) nan
  unfolding length_at even_of
  length_at_lem = go (eqb (n % 2) 0)
    where
      go : (t : Bool) → let es = cond t ds (ds ++ ds) in get_or es (i % length es) nan ≡ get_or ds (i % n) nan
      go true = refl
      go false =
          rw twice
          (again (i % (2 * n)) (mod-lt i (omega arith))
          ∙ ap (λ (j : ℕ). get_or ds j nan) (mod-mod_of_dvd n i (dvd-mul_left n 2)))

  pub is_dash_lem : is_dash ds i ≡ eqb (i % 2) 0
  unfolding is_dash even_of
  is_dash_lem = go (eqb (n % 2) 0) (eqb→eq (n % 2) 0)
    where
      go : (t : Bool) → (T t → n % 2 ≡ 0) → eqb (i % length (cond t ds (ds ++ ds)) % 2) 0 ≡ eqb (i % 2) 0
      go true e = ap (λ (j : ℕ). eqb j 0) (mod-mod_of_dvd 2 i (dvd_of_mod-eq-zero 2 (e tt)))
      go false e = rw twice (ap (λ (j : ℕ). eqb j 0) (mod-mod_of_dvd 2 i (dvd-mul_right 2 n)))
