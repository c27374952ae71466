-- Endpoints by their index among a run's coordinates: the point at i and those behind it, how many there are, and the points of a part of the coordinates, which
-- begins or ends with a point; at the end the parts that the passes take. Assumes nothing.
use Prim.Native.Nat.{ℕ, zero, suc, ◌+◌, ◌-◌, ◌*◌, ◌/◌, ◌≤◌}
use mathlib.Core.Path.{◌≡◌, refl, sym, ap, ◌∙◌}
use mathlib.Core.List.{List, [], ◌∷◌}
use native.Mathlib.Omega.{arith}
use lib.ListN.{length, take, drop, get_or}
use lib.Seq.{get_or-drop}
use lib.Ieee.{Float}
use Rattle.endpoint.specs.declared.Endpoint.{Endpoint}
use Rattle.kept.specs.Points.{endpoints_of, endpoint_at}

pub points_at : (p : List Float) (first i : ℕ) → 2 * i + 2 ≤ length p → drop i (endpoints_of first p) ≡ endpoint_at p first i ∷ drop (i + 1) (endpoints_of first p)
unfolding endpoints_of
points_at [] first i h = absurd (omega arith)
points_at (x ∷ []) first i h = absurd (omega arith)
points_at (x ∷ y ∷ p) first zero h = let z : first + 0 ≡ first = omega arith in rw z
points_at (x ∷ y ∷ p) first (suc i) h =
    let n : 2 * suc i ≡ suc (suc (2 * i)) = omega arith in
    let m : 2 * suc i + 1 ≡ suc (suc (2 * i + 1)) = omega arith in
    let j : suc i + 1 ≡ suc (i + 1) = omega arith in
    let l : first + suc i ≡ first + 1 + i = omega arith in
    rw (m, n, j, l) (points_at p (first + 1) i (omega arith))

pub points_length : (p : List Float) (first : ℕ) → length (endpoints_of first p) ≡ length p / 2
unfolding endpoints_of
points_length [] first = refl
points_length (x ∷ []) first = refl
points_length (x ∷ y ∷ p) first = omega (arith, points_length p (first + 1))

pub points_get : (p : List Float) (first i : ℕ) (d : Endpoint) → 2 * i + 2 ≤ length p → get_or (endpoints_of first p) i d ≡ endpoint_at p first i
points_get p first i d h =
    let z : i ≡ i + 0 = omega arith in
    ap (λ (n : ℕ). get_or (endpoints_of first p) n d) z ∙ sym (get_or-drop i (endpoints_of first p) 0 d) ∙ rw (points_at p first i h)

-- the points of a part
pub points_take : (e first : ℕ) (p : List Float) → endpoints_of first (take (2 * e) p) ≡ take e (endpoints_of first p)
unfolding endpoints_of
points_take zero first p = refl
points_take (suc e) first [] = let n : 2 * suc e ≡ suc (suc (2 * e)) = omega arith in rw n
points_take (suc e) first (x ∷ []) = let n : 2 * suc e ≡ suc (suc (2 * e)) = omega arith in rw n
points_take (suc e) first (x ∷ y ∷ p) = let n : 2 * suc e ≡ suc (suc (2 * e)) = omega arith in rw (n, points_take e (first + 1) p)

pub points_first : (p : List Float) (first : ℕ) → 2 ≤ length p → endpoints_of first p ≡ endpoint_at p first 0 ∷ drop 1 (endpoints_of first p)
points_first p first h = points_at p first 0 (omega arith)

pub points_drop : (e first : ℕ) (p : List Float) → endpoints_of (first + e) (drop (2 * e) p) ≡ drop e (endpoints_of first p)
unfolding endpoints_of
points_drop zero first p = let n : first + 0 ≡ first = omega arith in rw n
points_drop (suc e) first [] = let n : 2 * suc e ≡ suc (suc (2 * e)) = omega arith in rw n
points_drop (suc e) first (x ∷ []) = let n : 2 * suc e ≡ suc (suc (2 * e)) = omega arith in rw n
points_drop (suc e) first (x ∷ y ∷ p) =
    let n : 2 * suc e ≡ suc (suc (2 * e)) = omega arith in
    let m : first + suc e ≡ first + 1 + e = omega arith in
    rw (n, m) (points_drop e (first + 1) p)

-- n points from the one at e on
pub points_part : (e n : ℕ) (p : List Float) → endpoints_of e (take (2 * (e + n) - 2 * e) (drop (2 * e) p)) ≡ take n (drop e (endpoints_of 0 p))
points_part e n p =
    let l : 2 * (e + n) - 2 * e ≡ 2 * n = omega arith in
    let z : e ≡ 0 + e = omega arith in
    rw (l, points_take n e (drop (2 * e) p)) (ap (λ (first : ℕ). take n (endpoints_of first (drop (2 * e) p))) z ∙ ap (take n) (points_drop e 0 p))

-- the part that holds one point, and the first such
pub points_one_at : (p : List Float) (first i : ℕ) → 2 * i + 2 ≤ length p → endpoints_of (first + i) (take (2 * i + 2 - 2 * i) (drop (2 * i) p)) ≡ endpoint_at p first i ∷ []
points_one_at p first i h =
    let l : 2 * i + 2 - 2 * i ≡ 2 * 1 = omega arith in
    rw (l, points_take 1 (first + i) (drop (2 * i) p), points_drop i first p, points_at p first i h)

pub points_one : (p : List Float) (first : ℕ) → 2 ≤ length p → endpoints_of first (take 2 p) ≡ endpoint_at p first 0 ∷ []
points_one p first h = rw (points_take 1 first p, points_first p first h)
