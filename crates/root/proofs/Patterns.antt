-- What the bit patterns of binary32 stand for. Assumes nothing.
use mathlib.Core.Path.{◌≡◌, refl, sym, ap, ◌∙◌, subst}
use Prim.Native.Nat.{ℕ, zero, suc, ◌+◌, ◌-◌, ◌*◌, ◌/◌, ◌%◌, ◌^◌, ◌≤◌, ◌<◌}
use native.Mathlib.Nat.{not-le_of_lt, lt_of_not-le, mod-eq_of_lt, add_comm}
use native.Mathlib.Omega.{arith}
use mathlib.Core.Bool.{Bool, true, false, not, cond, true≢false}
use native.Mathlib.Decide.{dec_le}
use lib.Dec.{T, leb, ltb, eqb, leb→le, le→leb, ltb→lt, eqb→eq, not_T}
use lib.Ieee.{Float, nan, inf, fin, binary32, odd, of_fields, of_bits, nan_bits}
use lib.Ieee.Bits.{is_true, is_false, cond_no, nan_bits_above}
use lib.Ieee.Exact.{HasValue, odd_sign}
use Rattle.root.specs.Root.{rootable}

of_bits_is : (b : ℕ) → of_bits binary32 b ≡ of_fields binary32 (leb 2147483648 b) (b % 2147483648 / 8388608) (b % 8388608)
unfolding of_bits
of_bits_is b = refl

sign_clear : (i : ℕ) → i < 2147483648 → of_bits binary32 i ≡ of_fields binary32 false (i / 8388608) (i % 8388608)
sign_clear i u =
    of_bits_is i
    ∙ ap (λ (s : Bool). of_fields binary32 s (i % 2147483648 / 8388608) (i % 8388608)) (is_false (leb 2147483648 i) (not_T (leb 2147483648 i) (λ (t : T (leb 2147483648 i)). not-le_of_lt u (leb→le 2147483648 i t))))
    ∙ ap (λ (x : ℕ). of_fields binary32 false (x / 8388608) (i % 8388608)) (mod-eq_of_lt u)

-- ---- a field of 0, and one from 1 up to 254
at_zero : (t : ℕ) → of_fields binary32 false 0 t ≡ odd 24 false t 0 149
unfolding of_fields
at_zero t = refl

differ : (x : ℕ) → suc x < 255 → suc x ≡ 255 → ⊥
differ x h e = omega arith

under_ones : (t x : ℕ) → suc x < 255 → of_fields binary32 false (suc x) t ≡ odd 24 false (8388608 + t) x 149
unfolding of_fields
under_ones t x h = cond_no (eqb (suc x) 255) (cond (eqb t 0) (inf false) nan) (odd 24 false (8388608 + t) x 149) (not_T (eqb (suc x) 255) (λ (u : T (eqb (suc x) 255)). differ x h (eqb→eq (suc x) 255 u)))

pub subnormal : (b : ℕ) → b < 8388608 → HasValue (of_bits binary32 b) false (b * 2 ^ 0) (2 ^ 149)
subnormal b h =
    let u : b < 2147483648 = omega arith in
    let z : b / 8388608 ≡ 0 = omega arith in
    let e : of_bits binary32 b ≡ odd 24 false b 0 149 =
    sign_clear b u ∙ ap (λ (x : ℕ). of_fields binary32 false x (b % 8388608)) z ∙ ap (λ (t : ℕ). of_fields binary32 false 0 t) (mod-eq_of_lt h) ∙ at_zero b in
    subst (λ (w : Float). HasValue w false (b * 2 ^ 0) (2 ^ 149)) (sym e) (odd_sign 24 false b 0 149)

pub normal : (b : ℕ) → 8388608 ≤ b → b < 2139095040 → HasValue (of_bits binary32 b) false ((b % 8388608 + 8388608) * 2 ^ (b / 8388608 - 1)) (2 ^ 149)
normal b h k =
    let u : b < 2147483648 = omega arith in
    let f : suc (b / 8388608 - 1) ≡ b / 8388608 = omega arith in
    let l : suc (b / 8388608 - 1) < 255 = omega arith in
    let e : of_bits binary32 b ≡ odd 24 false (b % 8388608 + 8388608) (b / 8388608 - 1) 149 =
    sign_clear b u ∙ ap (λ (x : ℕ). of_fields binary32 false x (b % 8388608)) (sym f) ∙ under_ones (b % 8388608) (b / 8388608 - 1) l
    ∙ ap (λ (t : ℕ). odd 24 false t (b / 8388608 - 1) 149) (add_comm 8388608 (b % 8388608)) in
    subst (λ (w : Float). HasValue w false ((b % 8388608 + 8388608) * 2 ^ (b / 8388608 - 1)) (2 ^ 149)) (sym e) (odd_sign 24 false (b % 8388608 + 8388608) (b / 8388608 - 1) 149)

-- ---- both at once: b stands for m * 2 ^ k units, where k is one less than the exponent's field, or 0
pub record Split (b m k : ℕ) : Type 0 where
  pub value : HasValue (of_bits binary32 b) false (m * 2 ^ k) (2 ^ 149)
  pub pos : 0 < m
  pub small : m < 16777216
  pub low : k ≤ 253

pub split_is : (b : ℕ) → 0 < b → b < 2139095040 → Split b (b - (b / 8388608 - 1) * 8388608) (b / 8388608 - 1)
split_is b p u = go (dec_le 8388608 b)
  where
    go : Dec (8388608 ≤ b) → Split b (b - (b / 8388608 - 1) * 8388608) (b / 8388608 - 1)
    go (yes h) =
        let m : b % 8388608 + 8388608 ≡ b - (b / 8388608 - 1) * 8388608 = omega arith in
        record { value = subst (λ (x : ℕ). HasValue (of_bits binary32 b) false (x * 2 ^ (b / 8388608 - 1)) (2 ^ 149)) m (normal b h u); pos = omega arith; small = omega arith; low = omega arith }
    go (no f) =
        let h : b < 8388608 = lt_of_not-le f in
        let k : b / 8388608 - 1 ≡ 0 = omega arith in
        let m : b - 0 ≡ b = omega arith in
        rw (k, m) (record { value = subnormal b h; pos = p; small = omega arith; low = omega arith })

-- ---- the pattern g * 2 ^ 23 + s, for an s of 24 digits, stands for s * 2 ^ g units
pub made : (g s : ℕ) → g ≤ 189 → 8388608 ≤ s → s < 16777216 → HasValue (of_bits binary32 (g * 8388608 + s)) false (s * 2 ^ g) (2 ^ 149)
made g s gg l h =
    let b = g * 8388608 + s in
    let e : b % 8388608 + 8388608 ≡ s = omega arith in
    let f : b / 8388608 - 1 ≡ g = omega arith in
    subst (λ (x : ℕ). HasValue (of_bits binary32 b) false (x * 2 ^ g) (2 ^ 149)) e
    (subst (λ (x : ℕ). HasValue (of_bits binary32 b) false ((b % 8388608 + 8388608) * 2 ^ x) (2 ^ 149)) f (normal b (omega arith) (omega arith)))

-- ---- which patterns are of a number that has a root
odd_neg : (d q k l : ℕ) → T (rootable (odd d true q k l)) → ⊥
unfolding odd
odd_neg d zero k l p = p
odd_neg d (suc q) k l p = p

fields_neg : (x t : ℕ) → T (rootable (of_fields binary32 true x t)) → ⊥
unfolding of_fields
fields_neg zero t p = odd_neg 24 t 0 149 p
fields_neg (suc x) t p = go (eqb (suc x) 255) (eqb t 0) p
  where
    go : (a b : Bool) → T (rootable (cond a (cond b (inf true) nan) (odd 24 true (8388608 + t) x 149))) → ⊥
    go true true q = q
    go true false q = q
    go false b q = odd_neg 24 (8388608 + t) x 149 q

at_ones : (t : ℕ) → T (rootable (of_fields binary32 false 255 t)) → ⊥
unfolding of_fields
at_ones t p = go (eqb t 0) p
  where
    go : (b : Bool) → T (rootable (cond b (inf false) nan)) → ⊥
    go true q = q
    go false q = q

negative : (i : ℕ) → 2147483648 ≤ i → T (rootable (of_bits binary32 i)) → ⊥
negative i l p =
    fields_neg (i % 2147483648 / 8388608) (i % 8388608)
    (subst (λ (w : Float). T (rootable w)) (of_bits_is i ∙ ap (λ (s : Bool). of_fields binary32 s (i % 2147483648 / 8388608) (i % 8388608)) (is_true (leb 2147483648 i) (le→leb 2147483648 i l))) p)

pub refused : (b : ℕ) → 2139095040 ≤ b → T (rootable (of_bits binary32 b)) → ⊥
refused b l p = go (dec_le 2147483648 b)
  where
    go : Dec (2147483648 ≤ b) → ⊥
    go (yes h) = negative b h p
    go (no f) =
        let u : b < 2147483648 = lt_of_not-le f in
        let e : b / 8388608 ≡ 255 = omega arith in
        at_ones (b % 8388608) (subst (λ (w : Float). T (rootable w)) (sign_clear b u ∙ ap (λ (x : ℕ). of_fields binary32 false x (b % 8388608)) e) p)

pub value_rootable : (x : Float) (a c : ℕ) → HasValue x false a c → T (rootable x)
value_rootable nan a c h = absurd h
value_rootable (inf s) a c h = absurd h
value_rootable (fin true m e) a c h = absurd (true≢false h.0)
value_rootable (fin false m e) a c h = tt

pub below_rootable : (b : ℕ) → b < 2139095040 → T (rootable (of_bits binary32 b))
below_rootable b h = go (dec_le 8388608 b)
  where
    go : Dec (8388608 ≤ b) → T (rootable (of_bits binary32 b))
    go (yes l) = value_rootable (of_bits binary32 b) ((b % 8388608 + 8388608) * 2 ^ (b / 8388608 - 1)) (2 ^ 149) (normal b l h)
    go (no f) = value_rootable (of_bits binary32 b) (b * 2 ^ 0) (2 ^ 149) (subnormal b (lt_of_not-le f))

pub no_nan_bits : (b : ℕ) → b < 2139095040 → T (not (nan_bits binary32 b))
no_nan_bits b h =
    subst (λ (t : Bool). T (not t)) (sym (nan_bits_above binary32 b))
    (not_T (ltb 2139095040 (b % 2147483648)) (λ t. clash (ltb→lt 2139095040 (b % 2147483648) t)))
  where
    clash : 2139095040 < b % 2147483648 → ⊥
    clash k = omega arith
