-- One digit of a root, from r = 2 ^ (e + 1) to p = 2 ^ e, and the first and the last. The digit is 1 where what is left holds (4 * q + 1) * r: then
-- the square of (2 * q + 1) * p is at most n. Of a word only `rest` is not linear, and that is an identity. Assumes nothing.
use mathlib.Core.Path.{◌≡◌, ◌∙◌, subst}
use Prim.Native.Nat.{ℕ, ◌+◌, ◌-◌, ◌*◌, ◌/◌, ◌%◌, ◌^◌, ◌≤◌, ◌<◌}
use native.Mathlib.Nat.{mul-le-mul_left}
use native.Mathlib.Omega.{arith}
use lib.Pow.{pow_pos, pow-add}
use Rattle.root.specs.Steps.{Floor, Near, Operands, Digits}
use Rattle.root.proofs.Squares.{rounded_up, rounded_down}

-- ---- what is left, over whole numbers
rest_one : (n q d p : ℕ) → 4 * n ≡ (d + (4 * q + 1) * (2 * p)) * (2 * p) + 4 * (q * (2 * p) * (q * (2 * p)))
    → 4 * n ≡ 2 * d * p + 4 * ((2 * q + 1) * p * ((2 * q + 1) * p))
rest_one n q d p e = omega arith

rest_zero : (n q l p : ℕ) → 4 * n ≡ l * (2 * p) + 4 * (q * (2 * p) * (q * (2 * p))) → 4 * n ≡ 2 * l * p + 4 * (2 * q * p * (2 * q * p))
rest_zero n q l p e = omega arith

-- the word moved up: only the digits are left of it
moved : (l f p : ℕ) → f * p < 1073741824 → (l * 4294967296 + f) * 2 * (p * 8589934592) % 18446744073709551616 ≡ f * p * 17179869184
moved l f p h = omega arith

-- ---- one digit: p = 2 ^ e, and t is the trial, the word's digits moved up
module _ (n w e : ℕ) (D : Digits n w (e + 1)) where
  abbrev q : ℕ
  q = D.q

  abbrev l : ℕ
  l = D.left

  abbrev p : ℕ
  p = 2 ^ e

  halved : 2 ^ (e + 1) ≡ 2 * p
  halved = pow-add 2 e 1 ∙ omega arith

  rest : 4 * n ≡ l * (2 * p) + 4 * (q * (2 * p) * (q * (2 * p)))
  rest = rw halved at D.rest

  small : l < 16 * (q * p) + 8 * p
  small = let h = rw halved at D.small in omega arith

  room : 2 * (q * p) + 2 * p ≤ 16777216
  room = let h = rw halved at D.room in omega arith

  -- a word stands far below 2 ^ 64, and has its 01
  bounds : (1 ≤ w) × (w < 1152921504606846976)
  bounds =
      let a = small in
      let b = room in
      let c = D.word in
      let g = mul-le-mul_left q (pow_pos e) in
      (omega arith, omega arith)

  trial : (v : ℕ) → v ≡ 2 * w → v * 2 ^ (e + 33) % 18446744073709551616 ≡ (4 * q + 1) * p * 17179869184
  trial v i =
      let h = room in
      let c = D.word in
      let j : v ≡ (l * 4294967296 + (4 * q + 1)) * 2 = omega arith in
      rw (j, pow-add 2 e 33) (moved l (4 * q + 1) p (omega arith))

  with_one : (v t d : ℕ) → v ≡ 2 * w → t ≡ (4 * q + 1) * p * 17179869184 → l ≡ d + (4 * q + 1) * (2 * p) → Digits n (v - 1 + 4 - t) e
  with_one v t d i j k =
      let a = small in
      let b = room in
      let c = D.word in
      let m = D.most in
      record {
        q = 2 * q + 1;
        left = 2 * d;
        word = omega arith;
        rest = rest_one n q d p (subst (λ (x : ℕ). 4 * n ≡ x * (2 * p) + 4 * (q * (2 * p) * (q * (2 * p)))) k rest);
        small = omega arith;
        room = omega arith;
        most = omega arith;
      }

  one : (v t : ℕ) → v ≡ 2 * w → t ≡ (4 * q + 1) * p * 17179869184 → t ≤ v - 1 + 4 → Digits n (v - 1 + 4 - t) e
  one v t i j h =
      let c = D.word in
      let b = room in
      let g = mul-le-mul_left q (pow_pos e) in
      let held : (4 * q + 1) * (2 * p) ≤ l = omega arith in
      with_one v t (l - (4 * q + 1) * (2 * p)) i j (omega arith)

  zero : (v t : ℕ) → v ≡ 2 * w → t ≡ (4 * q + 1) * p * 17179869184 → v - 1 + 4 < t → Digits n (v - 1) e
  zero v t i j h =
      let a = small in
      let b = room in
      let c = D.word in
      let m = D.most in
      record {
        q = 2 * q;
        left = 2 * l;
        word = omega arith;
        rest = rest_zero n q l p rest;
        small = omega arith;
        room = omega arith;
        most = omega arith;
      }

  -- ---- the same of the machine's words, of which no shift but the trial's drops anything
  abbrev doubled : ℕ
  doubled = w * 2 % 18446744073709551616

  abbrev trial_of : ℕ
  trial_of = doubled * 2 ^ (e + 33) % 18446744073709551616

  twice : doubled ≡ 2 * w
  twice = let b = bounds in omega arith

  pub word_one : trial_of ≤ doubled - 1 + 4 → Digits n (doubled - 1 + 4 - trial_of) e
  word_one h = one doubled trial_of twice (trial doubled twice) h

  pub word_zero : doubled - 1 + 4 < trial_of → Digits n (doubled - 1) e
  word_zero h = zero doubled trial_of twice (trial doubled twice) h

-- ---- the first digit, and the next place
pub start : (n : ℕ) → Operands n → Digits n ((n - 70368744177664) * 2048 % 18446744073709551616 + 5) 23
start n o = let a = o.low in let b = o.high in let c = o.zeros in record {
  q = 1;
  left = (n - 70368744177664) / 2097152;
  word = omega arith;
  rest = omega arith;
  small = omega arith;
  room = omega arith;
  most = omega arith;
}

-- a place above 0 comes after the one below it
pub after : {n w k : ℕ} → 0 < k → Digits n w k → Digits n w (k - 1 + 1)
after {n} {w} {k} h D = let e : k - 1 + 1 ≡ k = omega arith in rw e D

-- ---- what the last leaves
module _ (n w : ℕ) (D : Digits n w 0) (o : Operands n) where
  abbrev rest_of : ℕ
  rest_of = w / 17179869184

  abbrev whole_of : ℕ
  whole_of = (w - rest_of * 17179869184 % 18446744073709551616) / 4

  floor : Floor n D.q
  floor = let a = D.rest in let b = D.small in record { low = omega arith; high = omega arith }

  parts : (rest_of ≡ n - D.q * D.q) × (whole_of ≡ D.q)
  parts = let a = D.word in let b = D.room in let c = D.small in let d = D.rest in (omega arith, omega arith)

  pub up : whole_of < rest_of → Near n (whole_of + 1)
  up h = let p = parts in rw p.1 (rounded_up n D.q o floor (omega arith))

  pub down : rest_of ≤ whole_of → Near n whole_of
  down h = let p = parts in rw p.1 (rounded_down n D.q o floor (omega arith))
