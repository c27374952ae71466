-- A vector (g, h), its squared length l and its length r, and (x, y), which is (g, h) over r, each rounded: over any whole numbers, u the unit. An error
-- is counted in parts of 2 ^ 24: two for a square's and a sum's rounding, four with the next, eight with the root's. Assumes nothing.
use mathlib.Core.Path.{◌≡◌}
use Prim.Native.Nat.{ℕ, ◌+◌, ◌*◌, ◌≤◌, ◌<◌}
use native.Mathlib.Nat.{le_trans, le_of_eq, mul-le-mul_right, le_of_mul-le-mul_right, mul-pos}
use native.Mathlib.Omega.{arith}
use Rattle.units.proofs.Relative.{Rel}

-- ---- r is within eight parts of the length, s is the sum of the squares
pub record Long (s q : ℕ) : Type 0 where
  pub high : 16777216 * q ≤ 16777224 * s
  pub low : 16777208 * s ≤ 16777216 * q

-- t is the sum of the two squares as rounded
sum_high : (a b u n k : ℕ) → 16777216 * u ≤ n + k → 16777216 * (a * u) ≤ 16777217 * n + 8388608 * u → 16777216 * (b * u) ≤ 16777217 * k + 8388608 * u → 16777216 * ((a + b) * u) ≤ 16777218 * (n + k)
sum_high a b u n k s h g = omega arith

sum_low : (a b u n k : ℕ) → 16777216 * u ≤ n + k → 16777215 * n ≤ 16777216 * (a * u) + 8388608 * u → 16777215 * k ≤ 16777216 * (b * u) + 8388608 * u → 16777214 * (n + k) ≤ 16777216 * ((a + b) * u)
sum_low a b u n k s h g = omega arith

length_high : (l t u s : ℕ) → 16777216 * u ≤ s → 16777216 * (l * 1) ≤ 16777217 * t + 8388608 * 1 → 16777216 * (t * u) ≤ 16777218 * s → 16777216 * (l * u) ≤ 16777220 * s
length_high l t u s b h k = let m : 16777216 * (l * 1) * u ≤ (16777217 * t + 8388608 * 1) * u = mul-le-mul_right u h in omega arith

length_low : (l t u s : ℕ) → 16777216 * u ≤ s → 16777215 * t ≤ 16777216 * (l * 1) + 8388608 * 1 → 16777214 * s ≤ 16777216 * (t * u) → 16777212 * s ≤ 16777216 * (l * u)
length_low l t u s b h k = let m : 16777215 * t * u ≤ (16777216 * (l * 1) + 8388608 * 1) * u = mul-le-mul_right u h in omega arith

pub long : (g h a b l r u : ℕ) → 16777216 * u ≤ g * g + h * h → Rel a u (g * g) → Rel b u (h * h) → Rel l 1 (a + b)
    → 16777216 * (r * r) ≤ 16777219 * (l * u) → 16777216 * (l * u) ≤ 16777219 * (r * r) → Long (g * g + h * h) (r * r)
long g h a b l r u big A B L up down =
    let s = g * g + h * h in
    let x = length_high l (a + b) u s big L.high (sum_high a b u (g * g) (h * h) big A.high B.high) in
    let y = length_low l (a + b) u s big L.low (sum_low a b u (g * g) (h * h) big A.low B.low) in
    record { high = over (r * r) (l * u) s up x; low = under (r * r) (l * u) s down y }
  where
    over : (q l s : ℕ) → 16777216 * q ≤ 16777219 * l → 16777216 * l ≤ 16777220 * s → 16777216 * q ≤ 16777224 * s
    over q l s h k = omega arith

    under : (q l s : ℕ) → 16777216 * l ≤ 16777219 * q → 16777212 * s ≤ 16777216 * l → 16777208 * s ≤ 16777216 * q
    under q l s h k = omega arith

-- however short it is, the squared length is not much longer
pub not_longer : (g h a b l u : ℕ) → Rel a u (g * g) → Rel b u (h * h) → Rel l 1 (a + b) → 16777216 * (l * u) ≤ 16777219 * (g * g + h * h) + 33554432 * u
not_longer g h a b l u A B L = le_trans (le_of_eq (itself l u)) (at (l * 1) (a + b) (g * g) (h * h) L.high (sums A.high B.high))
  where
    sums : 16777216 * (a * u) ≤ 16777217 * (g * g) + 8388608 * u → 16777216 * (b * u) ≤ 16777217 * (h * h) + 8388608 * u → 16777216 * ((a + b) * u) ≤ 16777217 * (g * g + h * h) + 16777216 * u
    sums i j = omega (arith, i, j)

    itself : (l u : ℕ) → 16777216 * (l * u) ≡ 16777216 * (l * 1 * u)
    itself l u = omega arith

    at : (m t n k : ℕ) → 16777216 * m ≤ 16777217 * t + 8388608 * 1 → 16777216 * (t * u) ≤ 16777217 * (n + k) + 16777216 * u → 16777216 * (m * u) ≤ 16777219 * (n + k) + 33554432 * u
    at m t n k i j = let e : 16777216 * m * u ≤ (16777217 * t + 8388608 * 1) * u = mul-le-mul_right u i in omega (arith, e, j)

-- ---- so the quotients' squares add up to one, within a part in 2 ^ 20
pub record Unity (x y u : ℕ) : Type 0 where
  pub high : 1048576 * (x * x + y * y) ≤ 1048577 * (u * u)
  pub low : 1048575 * (u * u) ≤ 1048576 * (x * x + y * y)

pub swapped : (x y u : ℕ) → Unity x y u → Unity y x u
swapped x y u L = record { high = high L.high; low = low L.low }
  where
    high : 1048576 * (x * x + y * y) ≤ 1048577 * (u * u) → 1048576 * (y * y + x * x) ≤ 1048577 * (u * u)
    high h = omega arith

    low : 1048575 * (u * u) ≤ 1048576 * (x * x + y * y) → 1048575 * (u * u) ≤ 1048576 * (y * y + x * x)
    low h = omega arith

-- p, q, v: the squares of the quotients, of the length and of the unit
end_high : (p q v s : ℕ) → 0 < q → 37778931862957161709568 ≤ v → 16777216 * (p * q) ≤ 16777219 * (s * v) + 16777216 * (140737488355328 * q) → 16777208 * s ≤ 16777216 * q → 1048576 * p ≤ 1048577 * v
end_high p q v s Q W h k =
    let a : 16777208 * s * v ≤ 16777216 * q * v = mul-le-mul_right v k in
    let b : 16777208 * p * q ≤ (16777219 * v + 16777208 * 140737488355328) * q = omega (arith, a, h) in
    let c : 16777208 * p ≤ 16777219 * v + 16777208 * 140737488355328 = le_of_mul-le-mul_right b Q in
    omega (arith, c, W)

end_low : (p q v s : ℕ) → 0 < q → 37778931862957161709568 ≤ v → 16777214 * (s * v) ≤ 16777216 * (p * q) + 16777216 * (140737488355328 * q) → 16777216 * q ≤ 16777224 * s → 1048575 * v ≤ 1048576 * p
end_low p q v s Q W h k =
    let a : 16777216 * q * v ≤ 16777224 * s * v = mul-le-mul_right v k in
    let b : 16777214 * v * q ≤ (16777224 * p + 16777224 * 140737488355328) * q = omega (arith, a, h) in
    let c : 16777214 * v ≤ 16777224 * p + 16777224 * 140737488355328 = le_of_mul-le-mul_right b Q in
    omega (arith, c, W)

pub unity : (g h r x y u : ℕ) → 0 < r → 37778931862957161709568 ≤ u * u → Long (g * g + h * h) (r * r) → Rel x r (g * u) → Rel y r (h * u) → Unity x y u
unity g h r x y u R W L X Y = record {
  high = end_high (x * x + y * y) (r * r) (u * u) (g * g + h * h) (mul-pos R R) W (gather X.square_high Y.square_high) L.low;
  low = end_low (x * x + y * y) (r * r) (u * u) (g * g + h * h) (mul-pos R R) W (collect X.square_low Y.square_low) L.high;
}
  where
    gather : 16777216 * (x * r * (x * r)) ≤ 16777219 * (g * u * (g * u)) + 16777216 * (70368744177664 * (r * r))
        → 16777216 * (y * r * (y * r)) ≤ 16777219 * (h * u * (h * u)) + 16777216 * (70368744177664 * (r * r))
        → 16777216 * ((x * x + y * y) * (r * r)) ≤ 16777219 * ((g * g + h * h) * (u * u)) + 16777216 * (140737488355328 * (r * r))
    gather i j = omega (arith, i, j)

    collect : 16777214 * (g * u * (g * u)) ≤ 16777216 * (x * r * (x * r)) + 16777216 * (70368744177664 * (r * r))
        → 16777214 * (h * u * (h * u)) ≤ 16777216 * (y * r * (y * r)) + 16777216 * (70368744177664 * (r * r))
        → 16777214 * ((g * g + h * h) * (u * u)) ≤ 16777216 * ((x * x + y * y) * (r * r)) + 16777216 * (140737488355328 * (r * r))
    collect i j = omega (arith, i, j)
