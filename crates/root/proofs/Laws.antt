-- What callers use of `IsRoot`: there is one such r; it grows with x; where x is a square, r is its root. That r is close is in
-- proofs/Computed.antt, which knows that every x has a root. Assumes nothing.
use mathlib.Core.Path.{◌≡◌, refl, ap, subst, sym, ◌∙◌}
use Prim.Native.Nat.{ℕ, ◌+◌, ◌*◌, ◌≤◌, ◌<◌}
use native.Mathlib.Nat.{lt_of_not-le, mul-le-mul}
use native.Mathlib.Decide.{dec_le}
use native.Mathlib.Omega.{arith}
use mathlib.Core.Bool.{Bool, true, false, not}
use lib.Dec.{T}
use lib.Ieee.{Float, binary32, fits}
use Rattle.root.specs.Root.{rootable, units, square, IsRoot}
use Rattle.root.specs.Answer.{Answers, answer_of}
use Rattle.root.specs.declared.Answer.{Answer}
use Rattle.std.proofs.Common.{Option}
use Rattle.std.proofs.Common.{Some, None}
use Rattle.root.proofs.Units.{same_units}

differ : ◌≡◌ {A = ℕ} 0 13 → ⊥
differ e = omega arith

-- ---- a larger number has no smaller root
pub monotone : (x y r q : Float) → IsRoot x r → IsRoot y q → square x ≤ square y → units r ≤ units q
monotone x y r q a b h = go (dec_le (units r) (units q))
  where
    clash : (a b c d : ℕ) → 4 * a < (c + d) * (c + d) → (d + c) * (d + c) < 4 * b → b ≤ a → ⊥
    clash a b c d h k l = omega arith

    go : Dec (units r ≤ units q) → units r ≤ units q
    go (yes l) = l
    go (no f) =
        let l : units q < units r = lt_of_not-le f in
        absurd (clash (square y) (square x) (units q) (units r) (b.above r a.held a.plain l) (a.below q b.held b.plain l) h)

-- ---- so there is one root
pub unique : (x r q : Float) → IsRoot x r → IsRoot x q → r ≡ q
unique x r q a b =
    same_units r q a.held b.held a.plain b.plain
    (equal (units r) (units q) (monotone x x r q a b (itself (square x))) (monotone x x q r b a (itself (square x))))
  where
    equal : (a b : ℕ) → a ≤ b → b ≤ a → a ≡ b
    equal a b h k = omega arith

    itself : (a : ℕ) → a ≤ a
    itself a = omega arith

-- and one answer: number, place and value, and the case of the enum
pub one_answer : (x : Float) (a b : Answer) → Answers x a → Answers x b → a ≡ b
one_answer x a b h k = go (rootable x) h.accepted k.accepted h.refused k.refused
  where
    same : {n m p q : ℕ} {v w : Float} → n ≡ m → p ≡ q → v ≡ w → ◌≡◌ {A = Answer} (record { number = n; place = p; value = v }) (record { number = m; place = q; value = w })
    same e f g = cc

    Accepted : Answer → Type 0
    Accepted c = (c.number ≡ 0) × (c.place ≡ 0) × IsRoot x c.value

    go : (t : Bool) → (T t → Accepted a) → (T t → Accepted b) → (T (not t) → a ≡ answer_of None) → (T (not t) → b ≡ answer_of None) → a ≡ b
    go true p q _ _ = let f = p tt in let g = q tt in same (f.0 ∙ sym g.0) (f.1 ∙ sym g.1) (unique x a.value b.value f.2 g.2)
    go false _ _ p q = p tt ∙ sym (q tt)

pub one_case : (a b : Option Float) → answer_of a ≡ answer_of b → a ≡ b
one_case (Some r) (Some q) e = ap Some (ap (λ (c : Answer). c.value) e)
one_case (Some r) None e = absurd (differ (ap (λ (c : Answer). c.number) e))
one_case None (Some q) e = absurd (differ (sym (ap (λ (c : Answer). c.number) e)))
one_case None None e = refl

-- ---- a square has its root
pub exact : (x r : Float) → T (fits binary32 r) → T (rootable r) → units r * units r ≡ square x → IsRoot x r
exact x r f p e = record {
  held = f;
  plain = p;
  above = λ y fy py h. subst (λ (n : ℕ). 4 * n < (units r + units y) * (units r + units y)) e (more (units r) (units y) h);
  below = λ y fy py h. subst (λ (n : ℕ). (units r + units y) * (units r + units y) < 4 * n) e (less (units r) (units y) h);
}
  where
    more : (a b : ℕ) → a < b → 4 * (a * a) < (a + b) * (a + b)
    more a b h = let k : a + a + 1 ≤ a + b = omega arith in omega (arith, mul-le-mul k k)

    less : (a b : ℕ) → b < a → (a + b) * (a + b) < 4 * (a * a)
    less a b h = let k : a + b + 1 ≤ a + a = omega arith in omega (arith, mul-le-mul k k)
