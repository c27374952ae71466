-- Floats that are not negative: their difference, where it is not negative either (`sub_plain`), and their comparisons by their values. Assumes nothing.
use mathlib.Core.Path.{◌≡◌, sym, ap, ◌∙◌, subst}
use Prim.Native.Nat.{ℕ, ◌-◌, ◌*◌, ◌≤◌, ◌<◌}
use native.Mathlib.Nat.{lt_irrefl, mul-lt-mul_of_pos_right, mul-sub, le_trans, le_of_eq, le_of_lt, lt_of_not-le, lt_of_lt_of_le, mul_comm, mul-le-mul_right, le_of_mul-le-mul_right, mul-pos}
use native.Mathlib.Decide.{dec_le}
use native.Mathlib.Omega.{arith}
use mathlib.Core.Bool.{cond, Bool, true, false, ◌&&◌, ◌||◌, true≢false, false≢true}
use lib.Dec.{T, ltb, eqb, ltb→lt, eqb→eq}
use lib.Ieee.{Float, binary32, round, add, sub, sum, neg, nan, inf, fin, up, down, lt, eq, le}
use lib.Ieee.Fits.{down_pos}
use lib.Ieee.Exact.{HasValue}
use lib.Ieee.Scale.{round_same}
use lib.Ieee.Order.{le_of_values}
use lib.Ieee.Bits.{is_true}
use Rattle.rounding.proofs.Values.{levelled, lt_value}

-- ---- a difference
taken : (A B k a b c : ℕ) → 0 < k → 0 < c → A * c ≡ a * k → B * c ≡ b * k → round binary32 false (A - B) k ≡ round binary32 false (a - b) c
taken A B k a b c K C p q =
    round_same binary32 false (A - B) k (a - b) c K C
    (mul_comm (A - B) c ∙ mul-sub c A B ∙ ap (λ (z : ℕ). z - c * B) (mul_comm c A ∙ p ∙ mul_comm a k) ∙ ap (λ (z : ℕ). k * a - z) (mul_comm c B ∙ q ∙ mul_comm b k) ∙ sym (mul-sub k a b) ∙ mul_comm k (a - b))

-- of two that are not negative, the second no larger
pub sub_plain : (x y : Float) (a b c : ℕ) → 0 < c → HasValue x false a c → HasValue y false b c → b ≤ a → sub binary32 x y ≡ round binary32 false (a - b) c
unfolding sub add sum neg
sub_plain nan y a b c C h k j = absurd h
sub_plain (inf u) y a b c C h k j = absurd h
sub_plain (fin u m e) nan a b c C h k j = absurd k
sub_plain (fin u m e) (inf v) a b c C h k j = absurd k
sub_plain (fin true m e) (fin v n g) a b c C h k j = absurd (true≢false h.0)
sub_plain (fin false m e) (fin true n g) a b c C h k j = absurd (true≢false k.0)
sub_plain (fin false m e) (fin false n g) a b c C h k j =
    let X = m * up e * down g in
    let Y = n * up g * down e in
    let z = down e * down g in
    let Z : 0 < z = mul-pos (down_pos e) (down_pos g) in
    let l = levelled (m * up e) (n * up g) (down e) (down g) a b c h.1 k.1 in
    go X Y z Z l.0 l.1 (ltb X Y) (ltb→lt X Y)
  where
    go : (X Y z : ℕ) → 0 < z → X * c ≡ a * z → Y * c ≡ b * z → (t : Bool) → (T t → X < Y)
        → cond t (round binary32 true (Y - X) z) (round binary32 false (X - Y) z) ≡ round binary32 false (a - b) c
    go X Y z Z p q true f = absurd (lt_irrefl (X * c) (lt_of_lt_of_le (mul-lt-mul_of_pos_right (f tt) C) (le_trans (le_of_eq q) (le_trans (mul-le-mul_right z j) (le_of_eq (sym p))))))
    go X Y z Z p q false f = taken X Y z a b c Z C p q

-- ---- comparisons by values
module _ (A B k a b c : ℕ) (K : 0 < k) (C : 0 < c) (p : A * c ≡ a * k) (q : B * c ≡ b * k) where
  down_le : A ≤ B → a ≤ b
  down_le h = le_of_mul-le-mul_right (subst (λ (z : ℕ). z ≤ b * k) p (subst (λ (z : ℕ). A * c ≤ z) q (mul-le-mul_right c h))) K

pub no_more : (a b : ℕ) → ltb a b || (eqb a b && true) ≡ true → a ≤ b
no_more a b t = go (ltb a b) (eqb a b) (ltb→lt a b) (eqb→eq a b) t
  where
    go : (x y : Bool) → (T x → a < b) → (T y → a ≡ b) → x || (y && true) ≡ true → a ≤ b
    go true y h k t = le_of_lt (h tt)
    go false true h k t = le_of_eq (k tt)
    go false false h k t = absurd (false≢true t)

-- x at most y, where x is above 0: so is y, and the values are in order
pub le_values : (x y : Float) (s : Bool) (a b c : ℕ) → 0 < c → 0 < a → HasValue x false a c → HasValue y s b c → le x y ≡ true → (s ≡ false) × (a ≤ b)
unfolding le lt eq
le_values nan y s a b c C P h k e = absurd h
le_values (inf u) y s a b c C P h k e = absurd h
le_values (fin u m d) nan s a b c C P h k e = absurd k
le_values (fin u m d) (inf v) s a b c C P h k e = absurd k
le_values (fin true m d) (fin v n g) s a b c C P h k e = absurd (true≢false h.0)
le_values (fin false m d) (fin true n g) s a b c C P h k e = absurd (go (m * up d * down g) (n * up g * down d) l.0 (eqb (m * up d * down g) (n * up g * down d)) (eqb (m * up d * down g) 0) (eqb→eq (m * up d * down g) 0) e)
  where
    l : (m * up d * down g * c ≡ a * (down d * down g)) × (n * up g * down d * c ≡ b * (down d * down g))
    l = levelled (m * up d) (n * up g) (down d) (down g) a b c h.1 k.1

    go : (X Y : ℕ) → X * c ≡ a * (down d * down g) → (x y : Bool) → (T y → X ≡ 0) → x && y ≡ true → ⊥
    go X Y p true true z e =
        let w : X ≡ 0 = z tt in
        let o : X * c ≡ 0 * c = ap (λ (i : ℕ). i * c) w in
        let f : 0 < a * (down d * down g) = mul-pos P (mul-pos (down_pos d) (down_pos g)) in
        omega arith
    go X Y p true false z e = false≢true e
    go X Y p false y z e = false≢true e
le_values (fin false m d) (fin false n g) s a b c C P h k e =
    let X = m * up d * down g in
    let Y = n * up g * down d in
    let z = down d * down g in
    let l = levelled (m * up d) (n * up g) (down d) (down g) a b c h.1 k.1 in
    (sym k.0, down_le X Y z a b c (mul-pos (down_pos d) (down_pos g)) C l.0 l.1 (no_more X Y e))

-- two that are not negative
pub le_plain : (x y : Float) (a b c : ℕ) → 0 < c → HasValue x false a c → HasValue y false b c → le x y ≡ true → a ≤ b
unfolding le lt eq
le_plain nan y a b c C h k e = absurd h
le_plain (inf u) y a b c C h k e = absurd h
le_plain (fin u m d) nan a b c C h k e = absurd k
le_plain (fin u m d) (inf v) a b c C h k e = absurd k
le_plain (fin true m d) (fin v n g) a b c C h k e = absurd (true≢false h.0)
le_plain (fin false m d) (fin true n g) a b c C h k e = absurd (true≢false k.0)
le_plain (fin false m d) (fin false n g) a b c C h k e =
    let X = m * up d * down g in
    let Y = n * up g * down d in
    let z = down d * down g in
    let l = levelled (m * up d) (n * up g) (down d) (down g) a b c h.1 k.1 in
    down_le X Y z a b c (mul-pos (down_pos d) (down_pos g)) C l.0 l.1 (no_more X Y e)

pub lt_plain : (x y : Float) (a b c : ℕ) → 0 < c → HasValue x false a c → HasValue y false b c → lt x y ≡ true → a < b
lt_plain x y a b c C h k e = go (dec_le b a)
  where
    go : Dec (b ≤ a) → a < b
    go (yes l) = absurd (true≢false (sym e ∙ (lt_value x y a b c C h k).1 l))
    go (no f) = lt_of_not-le f

-- and the tests from the values
pub le_plain_true : (x y : Float) (a b c : ℕ) → 0 < c → HasValue x false a c → HasValue y false b c → a ≤ b → le x y ≡ true
le_plain_true x y a b c C h k l = is_true (le x y) (le_of_values x y a c b c C C h k (mul-le-mul_right c l))
