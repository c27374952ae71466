-- What is read of a number: the f32 nearest to its exact decimal, and refusal 10 by the exact decimal. Assumes nothing.
use Prim.Native.Nat.{ℕ, suc, ◌+◌, ◌≤◌}
use mathlib.Core.Path.{◌≡◌, refl, ap}
use mathlib.Core.Bool.{Bool, true, false, cond}
use mathlib.Core.List.{List, [], ◌∷◌}
use native.Mathlib.Omega.{arith}
use borrow.Author.Tests.{ltb-false}
use lib.ListN.{length}
use Rattle.decimals.specs.Decimals.{value_of}
use Rattle.decimals.specs.Digits.{beyond_of, kept_of, decimal_of}
use Rattle.decimals.proofs.Reading as reading
use Rattle.form.proofs.Bytes.{digit_to}
use Rattle.form.specs.Form.{Digits, bytes, Places, places, Tail, none, point, Decimal, digits, dotted, Number}
use Rattle.values.specs.Meaning.{whole_digits, fraction_digits, size_of, minus_of, exact_of, number_float}

-- how many digits stand after the point, as the machine counts them
abbrev pub tail_places : Tail → ℕ
tail_places none = 0
tail_places (point p ds) = 1 + length ds.others

abbrev pub places_of : Decimal → ℕ
places_of (digits d ds t) = tail_places t
places_of (dotted p ds) = 1 + length ds.others

same_length : (ds : Digits) → length ds ≡ length (bytes ds [])
same_length [] = refl
same_length (d ∷ ds) = ap suc (same_length ds)

some_places : (ds : Places) → 1 + length ds.others ≡ length (places ds [])
some_places ds = let e = same_length ds.others in omega arith

pub places_is : (d : Decimal) → places_of d ≡ length (fraction_digits d)
places_is (digits d ds none) = refl
places_is (digits d ds (point p fs)) = some_places fs
places_is (dotted p fs) = some_places fs

-- they are digits, six at most
are_digits_lem : (ds : Digits) → reading.Digits (bytes ds [])
are_digits_lem [] = tt
are_digits_lem (d ∷ ds) = (digit_to d.code d.kind, are_digits_lem ds)

places_digits : (ds : Places) → reading.Digits (places ds [])
places_digits ds = (digit_to ds.first.code ds.first.kind, are_digits_lem ds.others)

fraction_digits_lem : (d : Decimal) → reading.Digits (fraction_digits d)
fraction_digits_lem (digits d ds none) = tt
fraction_digits_lem (digits d ds (point p fs)) = places_digits fs
fraction_digits_lem (dotted p fs) = places_digits fs

six : (ds : Places) → length (places ds []) ≤ 6
six ds = omega (arith, some_places ds, ds.few)

few_digits : (d : Decimal) → length (fraction_digits d) ≤ 6
few_digits (digits d ds none) = omega arith
few_digits (digits d ds (point p fs)) = six fs
few_digits (dotted p fs) = six fs

-- "10 is judged on the exact decimal"
pub judged_number : (m : Number) → beyond_of (kept_of (whole_digits (size_of m)) (fraction_digits (size_of m))) ≡ beyond_of (exact_of m)
judged_number m = reading.judged (whole_digits (size_of m)) (fraction_digits (size_of m)) (fraction_digits_lem (size_of m)) (few_digits (size_of m))

-- what is read of a number is its float
pub float_is : (m : Number) → value_of (minus_of m) (kept_of (whole_digits (size_of m)) (fraction_digits (size_of m))) ≡ number_float m
float_is m = go (beyond_of (exact_of m)) refl
  where
    ws : List ℕ
    ws = whole_digits (size_of m)

    fs : List ℕ
    fs = fraction_digits (size_of m)

    go : (t : Bool) → beyond_of (exact_of m) ≡ t → value_of (minus_of m) (kept_of ws fs) ≡ cond t (value_of (minus_of m) (kept_of ws fs)) (decimal_of (minus_of m) ws fs)
    go true e = refl
    go false e = reading.read (minus_of m) ws fs (fraction_digits_lem (size_of m)) (few_digits (size_of m)) (ltb-false 32768000000 (exact_of m) e)
