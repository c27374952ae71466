-- The length of a vector and its components over that length. The root of n units is r units, r * r within three parts in 2 ^ 24 of n ones; so r is
-- no less than a third of a component, and what is over it is at most 3. Assumes nothing.
use mathlib.Core.Path.{refl, sym, subst}
use Prim.Native.Nat.{ℕ, zero, suc, ◌+◌, ◌*◌, ◌^◌, ◌≤◌, ◌<◌}
use native.Mathlib.Nat.{le_of_lt, lt_of_not-le, mul-le-mul, mul-pos}
use native.Mathlib.Decide.{dec_le}
use native.Mathlib.Omega.{arith}
use mathlib.Core.Bool.{Bool, true, false}
use lib.Dec.{T, lit<}
use lib.Ieee.{Float, nan, inf, fin, binary32, unlike, fits, mul, div}
use lib.Ieee.Fits.{add-fits}
use lib.Ieee.Exact.{HasValue}
use Rattle.root.specs.Root.{rootable, units}
use Rattle.root.specs.Compute.{root_of}
use Rattle.root.proofs.Patterns.{value_rootable}
use Rattle.root.proofs.Units.{units_of, units_exact}
use Rattle.root.proofs.Computed.{root_is, close}
use Rattle.rounding.proofs.Scales.{one, one_pos}
use Rattle.rounding.proofs.Values.{div_round}
use Rattle.rounding.proofs.Results.{whole, made, Bounded, made_bounded}
use Rattle.rounding.proofs.Squares.{square_length, squared, length_squared, quarter_le_length_squared}

-- ---- the root
pub record Root (x : Float) (n : ℕ) : Type 0 where
  pub r : ℕ
  pub value : HasValue (root_of x) false r one
  pub high : 16777216 * (r * r) ≤ 16777219 * (n * one)
  pub low : 16777216 * (n * one) ≤ 16777219 * (r * r)

units_value : (x : Float) → T (fits binary32 x) → T (rootable x) → HasValue x false (units x) one
unfolding one
units_value nan f p = absurd p
units_value (inf s) f p = absurd p
units_value (fin true m e) f p = absurd p
units_value (fin false m e) f p = (refl, sym (units_exact (fin false m e) f p))

three_high : (r x : ℕ) → 16777215 * r * (16777215 * r) ≤ 281474976710656 * x → 16777216 * (r * r) ≤ 16777219 * x
three_high r x h = omega arith

three_low : (r x : ℕ) → 281474976710656 * x ≤ 16777217 * r * (16777217 * r) → 16777216 * x ≤ 16777219 * (r * r)
three_low r x h = omega arith

pub root_value : (x : Float) (n : ℕ) → T (fits binary32 x) → HasValue x false n one → Root x n
unfolding one
root_value x n f v =
    let p = value_rootable x n one v in
    let i = root_is x f p in
    let c = close x f (root_of x) p i in
    let r = units (root_of x) in
    record {
      r = r;
      value = units_value (root_of x) i.held i.plain;
      high = three_high r (n * 2 ^ 149) (subst (λ (m : ℕ). 16777215 * r * (16777215 * r) ≤ 281474976710656 * (m * 2 ^ 149)) (units_of x n v) c.low);
      low = three_low r (n * 2 ^ 149) (subst (λ (m : ℕ). 281474976710656 * (m * 2 ^ 149) ≤ 16777217 * r * (16777217 * r)) (units_of x n v) c.high);
    }

-- ---- a third, where the square is not above four times the root's operand
root_pos : (x r : ℕ) → 0 < x → 16777216 * x ≤ 16777219 * (r * r) → 0 < r
root_pos x zero X h = absurd (omega arith)
root_pos x (suc r) X h = omega arith

le_thrice_root : (x r k : ℕ) → 0 < x → 16777216 * x ≤ 16777219 * (r * r) → k * k ≤ 4 * x → k ≤ 3 * r
le_thrice_root x r k X h l = go (dec_le k (3 * r))
  where
    clash : 3 * r ≤ k → ⊥
    clash m = omega (arith, mul-le-mul m m)

    go : Dec (k ≤ 3 * r) → k ≤ 3 * r
    go (yes m) = m
    go (no f) = absurd (clash (le_of_lt (lt_of_not-le f)))

-- ---- z, a component of (x, y), over the length
module _ (x y : Float) (g h : ℕ) (S : 0 < length_squared g h) (v : HasValue (square_length x y) false (length_squared g h) one) where
  pub over_length : (z : Float) (s : Bool) (k : ℕ) → HasValue z s k one → squared k ≤ squared g + squared h → Bounded (div binary32 z (root_of (square_length x y))) 3
  over_length z s k u l =
      let n = length_squared g h * one in
      let N : 0 < n = mul-pos S one_pos in
      let R = root_value (square_length x y) (length_squared g h) (add-fits binary32 (mul binary32 x x) (mul binary32 y y)) v in
      let r = R.r in
      let P = root_pos n r N R.low in
      let d = div binary32 z (root_of (square_length x y)) in
      made_bounded
      (made d (unlike s false) k r 3 P (whole 3 (lit< tt)) (div_round z (root_of (square_length x y)) s false k r one P one_pos u R.value)
      (le_thrice_root n r k N R.low (quarter_le_length_squared g h k S l)))
