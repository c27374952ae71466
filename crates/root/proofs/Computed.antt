-- The root as a function: every f32 that has a root has the root `root_of x`, so `root` answers `root_answer x`. Assumes nothing.
use mathlib.Core.Path.{◌≡◌, refl, sym, ap, ◌∙◌, subst}
use Prim.Native.Nat.{ℕ, zero, suc, ◌+◌, ◌-◌, ◌*◌, ◌/◌, ◌^◌, ◌≤◌, ◌<◌}
use native.Mathlib.Nat.{lt_of_le_of_lt}
use native.Mathlib.Omega.{arith}
use mathlib.Core.Bool.{Bool, true, false, not, cond}
use lib.Dec.{T, leb, ltb, eqb, leb→le, nleb→lt, ltb→lt, nltb→le, eqb→eq, lit<}
use lib.Pow.{shr_lt}
use lib.Ieee.{Float, binary32, fits, of_bits, to_bits}
use lib.Ieee.Bits.{is_true, of_bits-to_bits}
use Rattle.root.specs.Root.{rootable, IsRoot, Close}
use Rattle.root.specs.Answer.{Answers, answer_of}
use Rattle.root.specs.Answer.{zero as plus_zero}
use Rattle.root.specs.Compute.{digit, floor_root, round_root, exponent, operand, parts_root, bits_root, root_of, root_answer}
use Rattle.root.specs.Steps.{Floor, Near, Operands, BitsRoot}
use Rattle.root.specs.declared.Answer.{Answer}
use Rattle.std.proofs.Common.{Some, None}
use Rattle.root.proofs.Squares.{rounded_up, rounded_down}
use Rattle.root.proofs.Exponents.{counted}
use Rattle.root.proofs.Patterns.{Split, split_is}
use Rattle.root.proofs.Answering.{bits_root_lem, zero_root, zero_close, zero_is, rootable_below, accepts, refuses}
use Rattle.root.proofs.Laws.{unique, one_answer}

-- ---- the whole part of a root, digit by digit
digit_is : (n q : ℕ) → Floor (n / 4) q → Floor n (digit (2 * q) n)
digit_is n q f = go (leb ((2 * q + 1) * (2 * q + 1)) n) (leb→le ((2 * q + 1) * (2 * q + 1)) n) (nleb→lt ((2 * q + 1) * (2 * q + 1)) n)
  where
    lo : 2 * q * (2 * q) ≤ n
    lo = let a = f.low in omega arith

    hi : n < (2 * q + 1 + 1) * (2 * q + 1 + 1)
    hi = let a = f.high in omega arith

    go : (b : Bool) → (T b → (2 * q + 1) * (2 * q + 1) ≤ n) → (T (not b) → n < (2 * q + 1) * (2 * q + 1)) → Floor n (cond b (2 * q + 1) (2 * q))
    go true h k = record { low = h tt; high = hi }
    go false h k = record { low = lo; high = k tt }

floor_is : (k n : ℕ) → n < 2 ^ (k + k) → Floor n (floor_root k n)
unfolding floor_root
floor_is zero n h = record { low = omega arith; high = h }
floor_is (suc k) n h = digit_is n (floor_root k (n / 4)) (floor_is k (n / 4) (shr_lt (k + k) 2 (subst (λ (x : ℕ). n < 2 ^ x) (twice k) h)))
  where
    twice : (k : ℕ) → suc k + suc k ≡ k + k + 2
    twice k = omega arith

round_is : (n s : ℕ) → Operands n → Floor n s → Near n (round_root s n)
round_is n s o f = go (ltb s (n - s * s)) (ltb→lt s (n - s * s)) (nltb→le s (n - s * s))
  where
    go : (b : Bool) → (T b → s < n - s * s) → (T (not b) → n - s * s ≤ s) → Near n (cond b (s + 1) s)
    go true h k = rounded_up n s o f (h tt)
    go false h k = rounded_down n s o f (k tt)

-- ---- the pattern
parts_is : (b m k : ℕ) → Split b m k → BitsRoot b (parts_root m k)
unfolding parts_root
parts_is b m k P =
    let n = operand m k in
    let C = counted b m k P in
    let O = C.operands in
    bits_root_lem b n (exponent m k / 2) (round_root (floor_root 24 n) n) C (round_is n (floor_root 24 n) O (floor_is 24 n (lt_of_le_of_lt O.high (lit< tt))))

bits_is : (b : ℕ) → 0 < b → b < 2139095040 → BitsRoot b (bits_root b)
unfolding bits_root
bits_is b p h = parts_is b (b - (b / 8388608 - 1) * 8388608) (b / 8388608 - 1) (split_is b p h)

-- ---- the float
module _ (x : Float) (f : T (fits binary32 x)) where
  computed : T (rootable x) → IsRoot x (root_of x) × Close x (root_of x)
  unfolding root_of
  computed p = rw (is_true (rootable x) p) (go (eqb (to_bits binary32 x) 0) (eqb→eq (to_bits binary32 x) 0) (positive (to_bits binary32 x)))
    where
      positive : (n : ℕ) → T (not (eqb n 0)) → 0 < n
      positive zero t = absurd t
      positive (suc n) t = omega arith

      go : (t : Bool) → (T t → to_bits binary32 x ≡ 0) → (T (not t) → 0 < to_bits binary32 x)
          → IsRoot x (cond t x (of_bits binary32 (bits_root (to_bits binary32 x)))) × Close x (cond t x (of_bits binary32 (bits_root (to_bits binary32 x))))
      go true z n = subst (λ (y : Float). IsRoot y y × Close y y) (sym (zero_is x f (z tt))) (zero_root, zero_close)
      go false z n =
          let r = bits_is (to_bits binary32 x) (n tt) (rootable_below x f p) in
          let s = of_bits binary32 (bits_root (to_bits binary32 x)) in
          subst (λ (y : Float). IsRoot y s × Close y s) (of_bits-to_bits binary32 x f) (r.root, r.close)

  pub root_is : T (rootable x) → IsRoot x (root_of x)
  root_is p = (computed p).0

  -- whatever is a root of x is `root_of x`, and it is close to √x
  pub is_root_of : (r : Float) → T (rootable x) → IsRoot x r → r ≡ root_of x
  is_root_of r p h = unique x r (root_of x) h (root_is p)

  pub close : (r : Float) → T (rootable x) → IsRoot x r → Close x r
  close r p h = subst (λ (y : Float). Close x y) (sym (is_root_of r p h)) (computed p).1

  -- what `root` answers
  root_answers : Answers x (root_answer x)
  root_answers = go (rootable x) (λ t. t) (λ t. t)
    where
      go : (t : Bool) → (T t → T (rootable x)) → (T (not t) → T (not (rootable x))) → Answers x (answer_of (cond t (Some (root_of x)) None))
      go true p n = accepts x (root_of x) (p tt) (root_is (p tt))
      go false p n = refuses x (n tt)

  pub answers : (a : Answer) → Answers x a → a ≡ root_answer x
  answers a h = one_answer x a (root_answer x) h root_answers

  -- the value alone, which is +0 where x has no root
  pub value_is : (a : Answer) → Answers x a → a.value ≡ root_of x
  unfolding root_of
  value_is a h = ap (λ (b : Answer). b.value) (answers a h) ∙ same (rootable x) (cond (eqb (to_bits binary32 x) 0) x (of_bits binary32 (bits_root (to_bits binary32 x))))
    where
      same : (t : Bool) (r : Float) → (answer_of (cond t (Some (cond t r plus_zero)) None)).value ≡ cond t r plus_zero
      same true r = refl
      same false r = refl
