-- The value of a finite float as a signed fraction, `HasValue x s a c`, and the operations of f32 by it: each is `round` of the exact result, and
-- what `round` makes is a whole number of units of 2 ^ -149. Each operation brings its operands to one scale; of a sum the two signs are four cases.
-- Assumes nothing.
use mathlib.Core.Path.{◌≡◌, refl, sym, ap, ◌∙◌, subst}
use Prim.Native.Nat.{ℕ, ◌+◌, ◌-◌, ◌*◌, ◌^◌, ◌≤◌, ◌<◌}
use native.Mathlib.Nat.{le_of_lt, lt_irrefl, lt_of_lt_of_le, lt_of_le_of_lt, mul_assoc, mul_comm, mul_right_comm, mul-mul-mul_comm, mul-sub, mul-le-mul_right, mul-lt-mul_of_pos_right, le_of_mul-le-mul_right, lt_of_mul-lt-mul_right, eq_of_mul-eq-mul_right, mul-pos}
use native.Mathlib.Omega.{arith}
use mathlib.Core.Bool.{Bool, true, false, not, ◌&&◌, cond, true≢false}
use lib.Dec.{T, ltb, eqb, ltb→lt, nltb→le, eqb→eq, lit<}
use lib.Ieee.{Float, nan, inf, fin, binary32, unlike, up, down, round, neg, sum, add, sub, mul, div, lt}
use lib.Ieee.Fits.{down_pos, round_is}
use lib.Ieee.Exact.{HasValue, units_val}
use lib.Ieee.Order.{drop, kept}
use lib.Ieee.Scale.{round_same, finite}
use lib.Ieee.Positive.{num, den, first_pos}
use Rattle.rounding.proofs.Rounding.{rounded}
use Rattle.rounding.proofs.Scales.{one}
use Rattle.rounding.proofs.Signed.{Sums}

-- ---- a value as a fraction
abbrev pub sign : Float → Bool
sign nan = false
sign (inf s) = s
sign (fin s m e) = s

pub finite_value : (x : Float) → T (finite x) → HasValue x (sign x) (num x) (den x)
finite_value nan f = absurd f
finite_value (inf s) f = absurd f
finite_value (fin s m e) f = (refl, refl)

-- at another scale
pub scaled_value : (x : Float) (s : Bool) (a c k : ℕ) → HasValue x s a c → HasValue x s (a * k) (c * k)
scaled_value nan s a c k h = absurd h
scaled_value (inf t) s a c k h = absurd h
scaled_value (fin t m e) s a c k h = (h.0, sym (mul_assoc (m * up e) c k) ∙ ap (λ (z : ℕ). z * k) h.1 ∙ mul_right_comm a (down e) k)

pub negated_value : (x : Float) (s : Bool) (a c : ℕ) → HasValue x s a c → HasValue (neg x) (not s) a c
unfolding neg
negated_value nan s a c h = absurd h
negated_value (inf t) s a c h = absurd h
negated_value (fin t m e) s a c h = (ap not h.0, h.1)

-- ---- what `round` makes
pub round_value : (s : Bool) (a c : ℕ) → rounded (a * one) c ≤ 2 ^ 100 * one → HasValue (round binary32 s a c) s (rounded (a * one) c) one
unfolding rounded one
round_value s a c h =
    subst (λ (z : Float). HasValue z s (kept 24 (a * 2 ^ 149) c * 2 ^ drop 24 (a * 2 ^ 149) c) (2 ^ 149)) (sym (round_is binary32 s a c))
    (units_val binary32 s (kept 24 (a * 2 ^ 149) c) (drop 24 (a * 2 ^ 149) c) (lt_of_le_of_lt h (lit< tt)))

-- ---- the product
pub mul_round : (x y : Float) (s t : Bool) (a c b d : ℕ) → 0 < c → 0 < d → HasValue x s a c → HasValue y t b d → mul binary32 x y ≡ round binary32 (unlike s t) (a * b) (c * d)
unfolding mul
mul_round nan y s t a c b d C D h k = absurd h
mul_round (inf u) y s t a c b d C D h k = absurd h
mul_round (fin u m e) nan s t a c b d C D h k = absurd k
mul_round (fin u m e) (inf v) s t a c b d C D h k = absurd k
mul_round (fin u m e) (fin v n g) s t a c b d C D h k =
    ap (λ (z : Bool). round binary32 (unlike z v) (m * up e * (n * up g)) (down e * down g)) h.0
    ∙ ap (λ (z : Bool). round binary32 (unlike s z) (m * up e * (n * up g)) (down e * down g)) k.0
    ∙ round_same binary32 (unlike s t) (m * up e * (n * up g)) (down e * down g) (a * b) (c * d) (mul-pos (down_pos e) (down_pos g)) (mul-pos C D)
    (mul-mul-mul_comm (m * up e) (n * up g) c d ∙ ap (λ (z : ℕ). z * (n * up g * d)) h.1 ∙ ap (λ (z : ℕ). a * down e * z) k.1 ∙ mul-mul-mul_comm a (down e) b (down g))

-- ---- the quotient
cross_out : (x y p q a b c : ℕ) → 0 < c → x * c ≡ a * p → y * c ≡ b * q → x * q * b ≡ a * (y * p)
cross_out x y p q a b c C h k =
    let l : x * c * (q * b) ≡ a * p * (q * b) = ap (λ (z : ℕ). z * (q * b)) h in
    let r : y * c * (a * p) ≡ b * q * (a * p) = ap (λ (z : ℕ). z * (a * p)) k in
    eq_of_mul-eq-mul_right c C (x * q * b) (a * (y * p)) (omega arith)

not_zero : (n : ℕ) (y z : Float) → 0 < n → cond (eqb n 0) y z ≡ z
not_zero n y z h = go (eqb n 0) (eqb→eq n 0)
  where
    go : (t : Bool) → (T t → n ≡ 0) → cond t y z ≡ z
    go true e = let f = e tt in absurd (omega arith)
    go false e = refl

pub div_round : (x y : Float) (s t : Bool) (a b c : ℕ) → 0 < b → 0 < c → HasValue x s a c → HasValue y t b c → div binary32 x y ≡ round binary32 (unlike s t) a b
unfolding div
div_round nan y s t a b c B C h k = absurd h
div_round (inf u) y s t a b c B C h k = absurd h
div_round (fin u m e) nan s t a b c B C h k = absurd k
div_round (fin u m e) (inf v) s t a b c B C h k = absurd k
div_round (fin u m e) (fin v n g) s t a b c B C h k =
    let X = m * up e * down g in
    let Y = n * up g * down e in
    let p : 0 < n * up g = first_pos (n * up g) c (subst (λ (z : ℕ). 0 < z) (sym k.1) (mul-pos B (down_pos g))) in
    not_zero n (cond (eqb m 0) nan (inf (unlike u v))) (round binary32 (unlike u v) X Y) (first_pos n (up g) p)
    ∙ ap (λ (z : Bool). round binary32 (unlike z v) X Y) h.0
    ∙ ap (λ (z : Bool). round binary32 (unlike s z) X Y) k.0
    ∙ round_same binary32 (unlike s t) X Y a b (mul-pos p (down_pos e)) B (cross_out (m * up e) (n * up g) (down e) (down g) a b c C h.1 k.1)

-- ---- the sum: z is ±a / c + ±b / c rounded, the exact sum is ±w / c
pub record Rounds (z : Float) (s : Bool) (a : ℕ) (t : Bool) (b c : ℕ) : Type 0 where
  pub r : Bool
  pub w : ℕ
  pub is : z ≡ round binary32 r w c
  pub sums : Sums s a t b r w

module _ (A B k a b c : ℕ) (K : 0 < k) (C : 0 < c) (p : A * c ≡ a * k) (q : B * c ≡ b * k) where
  cross_lt : A < B → a < b
  cross_lt h = lt_of_mul-lt-mul_right k (subst (λ (z : ℕ). z < b * k) p (subst (λ (z : ℕ). A * c < z) q (mul-lt-mul_of_pos_right h C)))

  cross_le : A ≤ B → a ≤ b
  cross_le h = le_of_mul-le-mul_right (subst (λ (z : ℕ). z ≤ b * k) p (subst (λ (z : ℕ). A * c ≤ z) q (mul-le-mul_right c h))) K

  added : (s : Bool) → round binary32 s (A + B) k ≡ round binary32 s (a + b) c
  added s = round_same binary32 s (A + B) k (a + b) c K C (omega arith)

  taken : (s : Bool) → A ≤ B → round binary32 s (B - A) k ≡ round binary32 s (b - a) c
  taken s h =
      round_same binary32 s (B - A) k (b - a) c K C
      (mul_comm (B - A) c ∙ mul-sub c B A ∙ ap (λ (z : ℕ). z - c * A) (mul_comm c B ∙ q ∙ mul_comm b k) ∙ ap (λ (z : ℕ). k * b - z) (mul_comm c A ∙ p ∙ mul_comm a k) ∙ sym (mul-sub k b a) ∙ mul_comm k (b - a))

module _ (A B k a b c : ℕ) (K : 0 < k) (C : 0 < c) (p : A * c ≡ a * k) (q : B * c ≡ b * k) where
  from_above : (t : Bool) → (T t → A < B) → (T (not t) → B ≤ A) → Rounds (cond t (round binary32 true (B - A) k) (round binary32 false (A - B) k)) false a true b c
  from_above true h g = let l = cross_le A B k a b c K C p q (le_of_lt (h tt)) in record { r = true; w = b - a; is = taken A B k a b c K C p q true (le_of_lt (h tt)); sums = omega arith }
  from_above false h g = let l = cross_le B A k b a c K C q p (g tt) in record { r = false; w = a - b; is = taken B A k b a c K C q p false (g tt); sums = omega arith }

  from_under : (t u : Bool) → (T t → A < B) → (T (not t) → B ≤ A) → (T (not u) → A ≤ B)
      → Rounds (cond t (round binary32 false (B - A) k) (round binary32 (true && u) (A - B) k)) true a false b c
  from_under true u h g f = let l = cross_le A B k a b c K C p q (le_of_lt (h tt)) in record { r = false; w = b - a; is = taken A B k a b c K C p q false (le_of_lt (h tt)); sums = omega arith }
  from_under false true h g f = let l = cross_le B A k b a c K C q p (g tt) in record { r = true; w = a - b; is = taken B A k b a c K C q p true (g tt); sums = omega arith }
  from_under false false h g f =
      let l = cross_le B A k b a c K C q p (g tt) in
      let m = cross_le A B k a b c K C p q (f tt) in
      record { r = false; w = a - b; is = taken B A k b a c K C q p false (g tt); sums = omega arith }

  sum_round : (s t : Bool) → Rounds (sum binary32 s A t B k) s a t b c
  unfolding sum
  sum_round true true = record { r = true; w = a + b; is = added A B k a b c K C p q true; sums = omega arith }
  sum_round false false = record { r = false; w = a + b; is = added A B k a b c K C p q false; sums = omega arith }
  sum_round false true = from_above (ltb A B) (ltb→lt A B) (nltb→le A B)
  sum_round true false = from_under (ltb A B) (ltb B A) (ltb→lt A B) (nltb→le A B) (nltb→le B A)

-- two fractions x / p and y / q at the scale of both
pub levelled : (x y p q a b c : ℕ) → x * c ≡ a * p → y * c ≡ b * q → (x * q * c ≡ a * (p * q)) × (y * p * c ≡ b * (p * q))
levelled x y p q a b c h k = (
  mul_right_comm x q c ∙ ap (λ (i : ℕ). i * q) h ∙ mul_assoc a p q,
  mul_right_comm y p c ∙ ap (λ (i : ℕ). i * p) k ∙ mul_assoc b q p ∙ ap (λ (i : ℕ). b * i) (mul_comm q p),
)

pub add_round : (x y : Float) (s t : Bool) (a b c : ℕ) → 0 < c → HasValue x s a c → HasValue y t b c → Rounds (add binary32 x y) s a t b c
unfolding add
add_round nan y s t a b c C h k = absurd h
add_round (inf u) y s t a b c C h k = absurd h
add_round (fin u m e) nan s t a b c C h k = absurd k
add_round (fin u m e) (inf v) s t a b c C h k = absurd k
add_round (fin u m e) (fin v n g) s t a b c C h k =
    let X = m * up e * down g in
    let Y = n * up g * down e in
    let z = down e * down g in
    let l = levelled (m * up e) (n * up g) (down e) (down g) a b c h.1 k.1 in
    subst (λ (i : Bool). Rounds (sum binary32 i X v Y z) s a t b c) (sym h.0)
    (subst (λ (i : Bool). Rounds (sum binary32 s X i Y z) s a t b c) (sym k.0)
    (sum_round X Y z a b c (mul-pos (down_pos e) (down_pos g)) C l.0 l.1 s t))

-- of two that are not negative
pub add_plain : (x y : Float) (a b c : ℕ) → 0 < c → HasValue x false a c → HasValue y false b c → add binary32 x y ≡ round binary32 false (a + b) c
unfolding add sum
add_plain nan y a b c C h k = absurd h
add_plain (inf u) y a b c C h k = absurd h
add_plain (fin u m e) nan a b c C h k = absurd k
add_plain (fin u m e) (inf v) a b c C h k = absurd k
add_plain (fin true m e) (fin v n g) a b c C h k = absurd (true≢false h.0)
add_plain (fin false m e) (fin true n g) a b c C h k = absurd (true≢false k.0)
add_plain (fin false m e) (fin false n g) a b c C h k =
    let l = levelled (m * up e) (n * up g) (down e) (down g) a b c h.1 k.1 in
    added (m * up e * down g) (n * up g * down e) (down e * down g) a b c (mul-pos (down_pos e) (down_pos g)) C l.0 l.1 false

pub sub_round : (x y : Float) (s t : Bool) (a b c : ℕ) → 0 < c → HasValue x s a c → HasValue y t b c → Rounds (sub binary32 x y) s a (not t) b c
unfolding sub
sub_round x y s t a b c C h k = add_round x (neg y) s (not t) a b c C h (negated_value y t b c k)

-- ---- the order of values that are not negative
lt_is : (A B k a b c : ℕ) → 0 < k → 0 < c → A * c ≡ a * k → B * c ≡ b * k → (t : Bool) → (T t → A < B) → (T (not t) → B ≤ A) → (t ≡ false → b ≤ a) × (b ≤ a → t ≡ false)
lt_is A B k a b c K C p q true h g = (λ (e : true ≡ false). absurd (true≢false e), λ (l : b ≤ a). absurd (lt_irrefl a (lt_of_lt_of_le (cross_lt A B k a b c K C p q (h tt)) l)))
lt_is A B k a b c K C p q false h g = (λ (e : false ≡ false). cross_le B A k b a c K C q p (g tt), λ (l : b ≤ a). refl)

pub lt_value : (x y : Float) (a b c : ℕ) → 0 < c → HasValue x false a c → HasValue y false b c → (lt x y ≡ false → b ≤ a) × (b ≤ a → lt x y ≡ false)
unfolding lt
lt_value nan y a b c C h k = absurd h
lt_value (inf u) y a b c C h k = absurd h
lt_value (fin u m e) nan a b c C h k = absurd k
lt_value (fin u m e) (inf v) a b c C h k = absurd k
lt_value (fin true m e) (fin v n g) a b c C h k = absurd (true≢false h.0)
lt_value (fin false m e) (fin true n g) a b c C h k = absurd (true≢false k.0)
lt_value (fin false m e) (fin false n g) a b c C h k =
    let X = m * up e * down g in
    let Y = n * up g * down e in
    let z = down e * down g in
    let l = levelled (m * up e) (n * up g) (down e) (down g) a b c h.1 k.1 in
    lt_is X Y z a b c (mul-pos (down_pos e) (down_pos g)) C l.0 l.1 (ltb X Y) (ltb→lt X Y) (nltb→le X Y)
