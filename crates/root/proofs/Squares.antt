-- Squares of whole numbers: what is nearest to a root, and from the whole part of a root to the nearest whole number. Assumes nothing.
use Prim.Native.Nat.{ℕ, ◌+◌, ◌-◌, ◌*◌, ◌≤◌, ◌<◌}
use native.Mathlib.Nat.{mul-le-mul, mul-le-mul_right, lt_of_not-le}
use native.Mathlib.Omega.{arith}
use Rattle.root.specs.Steps.{Floor, Near, Operands}

pub sq_le : {a b : ℕ} → a ≤ b → a * a ≤ b * b
sq_le h = mul-le-mul h h

-- ---- what is nearest to the root of an operand has 24 digits
pub near : (n s : ℕ) → Operands n → s * s < n + s → n ≤ s * s + s → Near n s
near n s o l h =
    let a = o.low in
    let b = o.high in
    record {
      low = l;
      high = h;
      least = lt_of_not-le (λ (g : s ≤ 8388607). (let k = sq_le g in omega arith));
      most = lt_of_not-le (λ (g : 16777216 ≤ s). (let k = mul-le-mul_right s g in omega arith));
    }

-- ---- rounding: s is the whole part of the root
module _ (n s : ℕ) (o : Operands n) (f : Floor n s) where
  pub rounded_up : s < n - s * s → Near n (s + 1)
  rounded_up h = let a = f.low in let b = f.high in near n (s + 1) o (omega arith) (omega arith)

  pub rounded_down : n - s * s ≤ s → Near n s
  rounded_down h =
      let a = f.low in
      let b = f.high in
      let c = o.low in
      let p : 0 < s = lt_of_not-le (λ (g : s ≤ 0). (let k = sq_le g in omega arith)) in
      near n s o (omega arith) (omega arith)
