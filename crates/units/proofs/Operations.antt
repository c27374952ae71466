-- The operations of f32 by the values of their operands, in units, each with its relative error. Assumes nothing.
use mathlib.Core.Path.{◌≡◌, sym, subst}
use Prim.Native.Nat.{ℕ, ◌+◌, ◌*◌, ◌≤◌, ◌<◌}
use native.Mathlib.Nat.{le_trans, one-mul, mul-pos}
use mathlib.Core.Bool.{Bool, false, not}
use lib.Ieee.{Float, binary32, unlike, round, add, sub, mul, div}
use lib.Ieee.Exact.{HasValue}
use Rattle.rounding.proofs.Rounding.{rounded}
use Rattle.rounding.proofs.Scales.{one, one_pos}
use Rattle.rounding.proofs.Signed.{alike, same_sign, Sums, sums_le}
use Rattle.rounding.proofs.Values.{mul_round, div_round, Rounds, add_round, add_plain, sub_round}
use Rattle.rounding.proofs.Results.{Limit, made}
use Rattle.units.proofs.Relative.{Rel, relative, cancel}

-- z is ±m units, no more than k ones, and m * c is n rounded
pub record Close (z : Float) (s : Bool) (c n k : ℕ) : Type 0 where
  pub m : ℕ
  pub value : HasValue z s m one
  pub within : m ≤ k * one
  pub rel : Rel m c n

-- ---- products and quotients of ±a and ±b units
module _ (x y : Float) (s t : Bool) (a b k : ℕ) (K : Limit k) (v : HasValue x s a one) (w : HasValue y t b one) where
  pub product : a * b ≤ k * (one * one) → Close (mul binary32 x y) (unlike s t) one (a * b) k
  product h =
      let C : 0 < one * one = mul-pos one_pos one_pos in
      let z = made (mul binary32 x y) (unlike s t) (a * b) (one * one) k C K (mul_round x y s t a one b one one_pos one_pos v w) h in
      let m = rounded (a * b * one) (one * one) in
      record { m = m; value = z.value; within = z.within; rel = cancel m one (a * b) one one_pos (relative (a * b * one) (one * one) C) }

  pub quotient : 0 < b → a ≤ k * b → Close (div binary32 x y) (unlike s t) b (a * one) k
  quotient B h =
      let z = made (div binary32 x y) (unlike s t) a b k B K (div_round x y s t a b one B one_pos v w) h in
      record { m = rounded (a * one) b; value = z.value; within = z.within; rel = relative (a * one) b B }

-- of one by itself
pub square : (x : Float) (s : Bool) (a k : ℕ) → Limit k → HasValue x s a one → a * a ≤ k * (one * one) → Close (mul binary32 x x) false one (a * a) k
square x s a k K v h = subst (λ (t : Bool). Close (mul binary32 x x) t one (a * a) k) (alike s) (product x x s s a a k K v v h)

-- over one that is not negative
pub over : (x y : Float) (s : Bool) (a b k : ℕ) → Limit k → HasValue x s a one → HasValue y false b one → 0 < b → a ≤ k * b → Close (div binary32 x y) s b (a * one) k
over x y s a b k K v w B h = subst (λ (t : Bool). Close (div binary32 x y) t b (a * one) k) (same_sign s) (quotient x y s false a b k K v w B h)

-- ---- sums: z is ±w units rounded
close_units : (z : Float) (r : Bool) (w k : ℕ) → Limit k → z ≡ round binary32 r w one → w ≤ k * one → Close z r 1 w k
close_units z r w k K e h =
    let m = rounded (w * one) one in
    let q = made z r w one k one_pos K e h in
    let R : Rel m (1 * one) (w * one) = subst (λ (i : ℕ). Rel m i (w * one)) (sym (one-mul one)) (relative (w * one) one one_pos) in
    record { m = m; value = q.value; within = q.within; rel = cancel m 1 w one one_pos R }

-- the exact sum ±w of ±a and ±b units, and what f32 makes of it
pub record Total (z : Float) (s : Bool) (a : ℕ) (t : Bool) (b k : ℕ) : Type 0 where
  pub r : Bool
  pub w : ℕ
  pub sums : Sums s a t b r w
  pub close : Close z r 1 w k

total : (z : Float) (s t : Bool) (a b k : ℕ) → Limit k → Rounds z s a t b one → a + b ≤ k * one → Total z s a t b k
total z s t a b k K e h =
    record { r = e.r; w = e.w; sums = e.sums; close = close_units z e.r e.w k K e.is (le_trans (sums_le s a t b e.r e.w e.sums) h) }

module _ (x y : Float) (s t : Bool) (a b k : ℕ) (K : Limit k) (v : HasValue x s a one) (w : HasValue y t b one) where
  pub added : a + b ≤ k * one → Total (add binary32 x y) s a t b k
  added h = total (add binary32 x y) s t a b k K (add_round x y s t a b one one_pos v w) h

  pub taken : a + b ≤ k * one → Total (sub binary32 x y) s a (not t) b k
  taken h = total (sub binary32 x y) s (not t) a b k K (sub_round x y s t a b one one_pos v w) h

-- of two that are not negative
pub plain_sum : (x y : Float) (a b k : ℕ) → Limit k → HasValue x false a one → HasValue y false b one → a + b ≤ k * one → Close (add binary32 x y) false 1 (a + b) k
plain_sum x y a b k K v w h = close_units (add binary32 x y) false (a + b) k K (add_plain x y a b one one_pos v w) h
