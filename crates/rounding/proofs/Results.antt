-- What an operation of f32 makes: a whole number of units, within a limit that rounding keeps. Assumes nothing.
use mathlib.Core.Path.{◌≡◌, sym, subst}
use Prim.Native.Nat.{ℕ, ◌*◌, ◌^◌, ◌≤◌, ◌<◌}
use native.Mathlib.Nat.{le_trans, le_of_eq, le_of_lt, mul_right_comm, mul-le-mul_right, le_of_mul-le-mul_right}
use mathlib.Core.Bool.{Bool, not}
use lib.Dec.{T, lit≤}
use lib.Pow.{pow_mono}
use lib.Ieee.{Float, nan, inf, fin, binary32, down, round, neg}
use lib.Ieee.Exact.{HasValue}
use lib.Ieee.Scale.{finite}
use lib.Ieee.Positive.{num, den}
use Rattle.rounding.proofs.Rounding.{rounded}
use Rattle.rounding.proofs.Scales.{one, one_pos, rounded_le_ones, rounded_le_power}
use Rattle.rounding.proofs.Values.{negated_value, round_value}

-- ---- limits that rounding keeps: numbers of 24 digits, and powers of two
pub record Limit (k : ℕ) : Type 0 where
  pub keep : (n c : ℕ) → 0 < c → n ≤ k * one * c → rounded n c ≤ k * one
  pub top : k ≤ 2 ^ 100

pub whole : (k : ℕ) → k < 2 ^ 24 → Limit k
whole k K = record { keep = λ n c C h. rounded_le_ones k n c K C h; top = le_trans (le_of_lt K) (lit≤ tt) }

pub power : (j : ℕ) → j ≤ 100 → Limit (2 ^ j)
power j J = record { keep = λ n c C h. rounded_le_power j n c C h; top = pow_mono J }

-- ---- z is ±w / c rounded, and no more than k
pub record Made (z : Float) (r : Bool) (w c k : ℕ) : Type 0 where
  pub value : HasValue z r (rounded (w * one) c) one
  pub within : rounded (w * one) c ≤ k * one

pub made : (z : Float) (r : Bool) (w c k : ℕ) → 0 < c → Limit k → z ≡ round binary32 r w c → w ≤ k * c → Made z r w c k
made z r w c k C K e h =
    let l : rounded (w * one) c ≤ k * one = K.keep (w * one) c C (le_trans (mul-le-mul_right one h) (le_of_eq (mul_right_comm k c one))) in
    record {
      value = subst (λ (x : Float). HasValue x r (rounded (w * one) c) one) (sym e) (round_value r w c (le_trans l (mul-le-mul_right one K.top)));
      within = l;
    }

-- ---- z is ±size units, and no more than k
pub record Bounded (z : Float) (k : ℕ) : Type 0 where
  pub s : Bool
  pub size : ℕ
  pub value : HasValue z s size one
  pub within : size ≤ k * one

abbrev pub made_bounded : {z : Float} {r : Bool} {w c k : ℕ} → Made z r w c k → Bounded z k
made_bounded {z} {r} {w} {c} {k} m = record { s = r; size = rounded (w * one) c; value = m.value; within = m.within }

pub bounded_neg : {z : Float} {k : ℕ} → Bounded z k → Bounded (neg z) k
bounded_neg {z} {k} b = record { s = not b.s; size = b.size; value = negated_value z b.s b.size one b.value; within = b.within }

-- ---- any float, which need not be of whole units: finite, and no more than k
abbrev pub Within : ℕ → Float → Type 0
Within k x = T (finite x) × (num x ≤ k * den x)

pub bounded_within : {z : Float} {k : ℕ} → Bounded z k → Within k z
bounded_within {z} {k} b = go z b.s b.size b.value b.within
  where
    go : (z : Float) (s : Bool) (a : ℕ) → HasValue z s a one → a ≤ k * one → Within k z
    go nan s a v h = absurd v
    go (inf t) s a v h = absurd v
    go (fin t m e) s a v h =
        (tt, le_of_mul-le-mul_right (le_trans (le_of_eq v.1) (le_trans (mul-le-mul_right (down e) h) (le_of_eq (mul_right_comm k one (down e))))) one_pos)
