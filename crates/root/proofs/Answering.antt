-- `root` at every f32: which tests tell what of x, and what each answer means. Assumes nothing.
use mathlib.Core.Path.{◌≡◌, refl, sym, ap, ◌∙◌, subst}
use mathlib.Core.Logic.{◌⊎◌, inl, inr}
use Prim.Native.Nat.{ℕ, ◌+◌, ◌*◌, ◌%◌, ◌^◌, ◌≤◌, ◌<◌, zero-le}
use native.Mathlib.Nat.{lt_of_not-le, not-suc-le-zero, mul-pos}
use native.Mathlib.Decide.{dec_le}
use native.Mathlib.Omega.{arith}
use mathlib.Core.Bool.{true, false, not}
use lib.Dec.{T, not_T, T_not, lit<}
use lib.Ieee.{Float, nan, inf, fin, binary32, fits, of_bits, to_bits, is_nan, lt}
use lib.Ieee.Bits.{of_bits-to_bits, of_bits-fits}
use Rattle.root.specs.Root.{rootable, units, IsRoot, Close}
use Rattle.root.specs.Answer.{Answers, answer_of}
use Rattle.root.specs.Steps.{Near, Scaled, BitsRoot}
use Rattle.std.proofs.Common.{Some, None}
use Rattle.root.proofs.Patterns.{made, refused, value_rootable, below_rootable}
use Rattle.root.proofs.Middles.{is_root, is_close_lem}
use Rattle.root.proofs.Units.{same_units}
use Rattle.root.proofs.Order.{units→lt}

-- ---- what `root_bits` returns
pub bits_root_lem : (b n g s : ℕ) → Scaled b n g → Near n s → BitsRoot b (g * 8388608 + s)
bits_root_lem b n g s C N =
    let x = of_bits binary32 b in
    let r = of_bits binary32 (g * 8388608 + s) in
    let v = made g s C.most N.least N.most in
    let h = N.most in
    let l = C.most in
    record {
      finite = omega arith;
      root =
          is_root x r C.v n s g C.value v C.same N (of_bits-fits binary32 (g * 8388608 + s)) (value_rootable r (s * 2 ^ g) (2 ^ 149) v)
          C.operands.low;
      close = is_close_lem x r C.v n s g C.value v C.same N;
    }

-- the machine's shift of g drops nothing
pub bits_root_shifted : (b n g s : ℕ) → Scaled b n g → Near n s → BitsRoot b (g * 8388608 % 4294967296 + s)
bits_root_shifted b n g s C N =
    let l = C.most in
    let f : g * 8388608 % 4294967296 ≡ g * 8388608 = omega arith in
    rw f (bits_root_lem b n g s C N)

-- ---- zero and its root
pub zero_root : IsRoot (of_bits binary32 0) (of_bits binary32 0)
unfolding of_bits fits
zero_root = record {
  held = tt;
  plain = tt;
  above = λ y fy py h. squared (units y) h;
  below = λ y fy py h. absurd (not-suc-le-zero h);
}
  where
    squared : (n : ℕ) → 0 < n → 0 < (0 + n) * (0 + n)
    squared n h = omega (arith, mul-pos h h)

pub zero_close : Close (of_bits binary32 0) (of_bits binary32 0)
unfolding of_bits
zero_close = record { low = zero-le; high = zero-le }

-- ---- patterns and roots
pub high_refused : (x : Float) → T (fits binary32 x) → 2139095040 ≤ to_bits binary32 x → T (not (rootable x))
high_refused x f l = not_T (rootable x) (λ t. refused (to_bits binary32 x) l (subst (λ (y : Float). T (rootable y)) (sym (of_bits-to_bits binary32 x f)) t))

pub rootable_below : (x : Float) → T (fits binary32 x) → T (rootable x) → to_bits binary32 x < 2139095040
rootable_below x f p = lt_of_not-le (λ (g : 2139095040 ≤ to_bits binary32 x). T_not (rootable x) (high_refused x f g) p)

pub zero_is : (x : Float) → T (fits binary32 x) → to_bits binary32 x ≡ 0 → x ≡ of_bits binary32 0
zero_is x f e = sym (of_bits-to_bits binary32 x f) ∙ ap (of_bits binary32) e

-- ---- x > 0.0: x is no NaN, and it has a root or is the infinity
pub above_no_nan : (x : Float) → T (lt (of_bits binary32 0) x) → T (not (is_nan x))
unfolding lt is_nan of_bits
above_no_nan nan t = absurd t
above_no_nan (inf s) t = tt
above_no_nan (fin s m e) t = tt

above : (x : Float) → T (lt (of_bits binary32 0) x) → T (rootable x) ⊎ (to_bits binary32 x ≡ 2139095040)
unfolding lt of_bits to_bits
above nan t = absurd t
above (inf true) t = absurd t
above (inf false) t = inr refl
above (fin true m e) t = absurd t
above (fin false m e) t = inl tt

not_above_itself : T (lt (of_bits binary32 0) (of_bits binary32 0)) → ⊥
unfolding lt of_bits
not_above_itself t = t

module _ (x : Float) (f : T (fits binary32 x)) where
  pub above_bits : T (lt (of_bits binary32 0) x) → (to_bits binary32 x ≡ 2139095040 → ⊥) → (0 < to_bits binary32 x) × (to_bits binary32 x < 2139095040)
  above_bits t n = (go (dec_le (to_bits binary32 x) 0), below (above x t))
    where
      least : (k : ℕ) → k ≤ 0 → k ≡ 0
      least k h = omega arith

      go : Dec (to_bits binary32 x ≤ 0) → 0 < to_bits binary32 x
      go (yes h) = absurd (not_above_itself (subst (λ (y : Float). T (lt (of_bits binary32 0) y)) (zero_is x f (least (to_bits binary32 x) h)) t))
      go (no h) = lt_of_not-le h

      below : T (rootable x) ⊎ (to_bits binary32 x ≡ 2139095040) → to_bits binary32 x < 2139095040
      below (inl p) = rootable_below x f p
      below (inr e) = absurd (n e)

  -- a number with a root that is not above zero is +0, whose pattern is 0
  pub rest_refused : (T (lt (of_bits binary32 0) x) → ⊥) → (to_bits binary32 x ≡ 0 → ⊥) → T (not (rootable x))
  unfolding of_bits to_bits
  rest_refused n z = not_T (rootable x) (λ p. z (ap (to_bits binary32) (same_units x (of_bits binary32 0) f (of_bits-fits binary32 0) p (below_rootable 0 (lit< tt)) (go p (dec_le (units x) 0)))))
    where
      least : (k : ℕ) → k ≤ 0 → k ≡ 0
      least k h = omega arith

      go : T (rootable x) → Dec (units x ≤ 0) → units x ≡ 0
      go p (yes h) = least (units x) h
      go p (no h) = absurd (n (units→lt (of_bits binary32 0) x (of_bits-fits binary32 0) f (below_rootable 0 (lit< tt)) p (lt_of_not-le h)))

-- ---- no NaN has a root
pub nan_refused : (x : Float) → is_nan x ≡ true → T (not (rootable x))
unfolding is_nan
nan_refused nan e = tt
nan_refused (inf s) e = tt
nan_refused (fin s m k) e = cc

-- ---- the answers
pub refuses : (x : Float) → T (not (rootable x)) → Answers x (answer_of None)
refuses x h = record { accepted = λ t. absurd (T_not (rootable x) h t); refused = λ _. refl }

pub accepts : (x r : Float) → T (rootable x) → IsRoot x r → Answers x (answer_of (Some r))
accepts x r p h = record { accepted = λ _. (refl, refl, h); refused = λ t. absurd (T_not (rootable x) t p) }

pub zero_answer : (x : Float) → T (fits binary32 x) → to_bits binary32 x ≡ 0 → Answers x (answer_of (Some (of_bits binary32 0)))
zero_answer x f e =
    subst (λ (y : Float). Answers y (answer_of (Some (of_bits binary32 0)))) (sym (zero_is x f e))
    (accepts (of_bits binary32 0) (of_bits binary32 0) (below_rootable 0 (lit< tt)) zero_root)

pub answer : (x : Float) (r : ℕ) → T (fits binary32 x) → to_bits binary32 x < 2139095040 → BitsRoot (to_bits binary32 x) r → Answers x (answer_of (Some (of_bits binary32 r)))
answer x r f h b =
    subst (λ (y : Float). Answers y (answer_of (Some (of_bits binary32 r)))) (of_bits-to_bits binary32 x f)
    (accepts (of_bits binary32 (to_bits binary32 x)) (of_bits binary32 r) (below_rootable (to_bits binary32 x) h) b.root)
