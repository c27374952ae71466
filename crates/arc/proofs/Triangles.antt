-- Demand 3 of an arc's triangles: count, own, named, attached. Assumes nothing.
use Prim.Native.Nat.{ℕ, zero, suc, ◌+◌, ◌^◌, ◌≤◌, ◌<◌}
use mathlib.Core.Path.{◌≡◌, refl}
use mathlib.Core.List.{List, ◌∷◌, ◌++◌}
use mathlib.Core.Logic.{◌≢◌}
use native.Mathlib.Decide.{ℕ_discrete, dec_lt}
use native.Mathlib.Omega.{arith}
use lib.ListN.{length, length-append}
use Rattle.triangles.specs.Facts.{In, AllOwn, in_tri, Names, here, there, shared}
use Rattle.triangles.specs.Tri.{Tri}
use Rattle.triangles.specs.Attached.{Has, first, Attached}
use Rattle.arc.specs.Arc.{arc_triangles}
use Rattle.triangles.proofs.Having.{in_a_lem, in_b_lem, in_c_lem, in_none, own_append, names_left, names_right}
use Rattle.triangles.proofs.Attaching.{seen_after, sub_after, attached_append}

pub pow_some : (k : ℕ) → 1 ≤ 2 ^ k
pow_some zero = omega arith
pow_some (suc k) = omega (arith, pow_some k)

-- "2^k - 1 vertices and as many triangles"
pub arc_count : (k i a b : ℕ) → 1 + length (arc_triangles k i a b) ≡ 2 ^ k
unfolding arc_triangles
arc_count zero i a b = refl
arc_count (suc k) i a b = rw (length-append (arc_triangles k (i + 1) a i) (arc_triangles k (i + 2 ^ k) i b)) (omega (arith, arc_count k (i + 1) a i, arc_count k (i + 2 ^ k) i b))

-- three different vertices, of those before i or of the arc's own
pub arc_own : (lo hi k i a b : ℕ) → a ≢ b → In lo i a → In lo i b → i + 2 ^ k ≤ hi + 1 → AllOwn lo hi (arc_triangles k i a b)
unfolding arc_triangles
arc_own lo hi zero i a b d f g h = tt
arc_own lo hi (suc k) i a b d f g h =
    let p = pow_some k in
    let x = f.0 in
    let y = f.1 in
    let z = g.0 in
    let w = g.1 in (
      record {
        ab = λ e. omega arith;
        bc = λ e. omega arith;
        ac = d;
        in_a = (omega arith, omega arith);
        in_b = (omega arith, omega arith);
        in_c = (omega arith, omega arith);
      },
      own_append lo hi (arc_triangles k (i + 1) a i) (arc_triangles k (i + 2 ^ k) i b)
          (arc_own lo hi k (i + 1) a i (λ e. omega arith) (omega arith, omega arith) (omega arith, omega arith) (omega arith))
          (arc_own lo hi k (i + 2 ^ k) i b (λ e. omega arith) (omega arith, omega arith) (omega arith, omega arith) (omega arith)),
    )

-- each of the arc's vertices is named
pub arc_named : (k i a b x : ℕ) → i ≤ x → x + 1 < i + 2 ^ k → Names x (arc_triangles k i a b)
unfolding arc_triangles
arc_named zero i a b x f g = absurd (omega arith)
arc_named (suc k) i a b x f g = go (ℕ_discrete i x) (dec_lt (x + 1) (i + 1 + 2 ^ k)) (λ h l. arc_named k (i + 1) a i x h l) (λ h l. arc_named k (i + 2 ^ k) i b x h l)
  where
    go : Dec (i ≡ x) → Dec (x + 1 < i + 1 + 2 ^ k)
        → (i + 1 ≤ x → x + 1 < i + 1 + 2 ^ k → Names x (arc_triangles k (i + 1) a i))
        → (i + 2 ^ k ≤ x → x + 1 < i + 2 ^ k + 2 ^ k → Names x (arc_triangles k (i + 2 ^ k) i b))
        → Names x (record { a = a; b = i; c = b } ∷ (arc_triangles k (i + 1) a i ++ arc_triangles k (i + 2 ^ k) i b))
    go (yes e) h l r = here {t = record { a = a; b = i; c = b }} (rw e (in_b_lem a b x))
    go (no e) (yes h) l r = there (names_left x (arc_triangles k (i + 1) a i) (arc_triangles k (i + 2 ^ k) i b) (l (omega arith) h))
    go (no e) (no h) l r = there (names_right x (arc_triangles k (i + 1) a i) (arc_triangles k (i + 2 ^ k) i b) (r (omega arith) (omega arith)))

-- attached where a triangle u that was seen has both ends and not the middle
pub arc_attached : (seen : List Tri) (u : Tri) (k i a b : ℕ) → Has u seen → in_tri u a ≡ 1 → in_tri u b ≡ 1 → in_tri u i ≡ 0 → a ≢ b → a < i → b < i
    → Attached seen (arc_triangles k i a b)
unfolding arc_triangles shared
arc_attached seen u zero i a b h f g n d y z = tt
arc_attached seen u (suc k) i a b h f g n d y z = (
  record { with = u; has = h; two = two },
  attached_append (t ∷ seen) (arc_triangles k (i + 1) a i) (arc_triangles k (i + 2 ^ k) i b)
      (arc_attached (t ∷ seen) t k (i + 1) a i (first refl) (in_a_lem i b a) (in_b_lem a b i)
      (in_none a i b (i + 1) (λ e. omega arith) (λ e. omega arith) (λ e. omega arith)) (λ e. omega arith) (omega arith) (omega arith))
      (arc_attached (seen_after (t ∷ seen) (arc_triangles k (i + 1) a i)) t k (i + 2 ^ k) i b
      (sub_after (t ∷ seen) (arc_triangles k (i + 1) a i) t (first refl)) (in_b_lem a b i) (in_c_lem a i b)
      (in_none a i b (i + 2 ^ k) (λ e. omega (arith, pow_some k)) (λ e. omega (arith, pow_some k)) (λ e. omega (arith, pow_some k)))
      (λ e. omega arith) (omega (arith, pow_some k)) (omega (arith, pow_some k))),
)
  where
    t : Tri
    t = record { a = a; b = i; c = b }

    two : shared u (record { a = a; b = i; c = b }) ≡ 2
    two = rw (f, g, n)
