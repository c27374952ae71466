-- Which vertices a triangle has, and laws of appended lists. Assumes nothing.
use Prim.Native.Nat.{ℕ, ◌≤◌}
use mathlib.Core.Path.{◌≡◌, refl, sym}
use mathlib.Core.Bool.{Bool, true, false, cond}
use mathlib.Core.List.{List, [], ◌∷◌, ◌++◌}
use mathlib.Core.Logic.{◌≢◌}
use native.Mathlib.Decide.{ℕ_discrete}
use native.Mathlib.Omega.{arith}
use lib.Dec.{eqb}
use borrow.Author.Tests.{eq-eqb, ne_eqb}
use Rattle.triangles.specs.Tri.{Tri}
use Rattle.triangles.specs.Facts.{In, Own, AllOwn, in_tri, Names, here, there}
use Rattle.triangles.specs.Attached.{Has, first, later}

-- a triangle has its own three vertices, and no other
pub in_a_lem : (b c x : ℕ) → in_tri (record { a = x; b = b; c = c }) x ≡ 1
unfolding in_tri
in_a_lem b c x = rw (eq-eqb x x refl)

pub in_b_lem : (a c x : ℕ) → in_tri (record { a = a; b = x; c = c }) x ≡ 1
unfolding in_tri
in_b_lem a c x = rw (eq-eqb x x refl) (go (eqb a x))
  where
    go : (t : Bool) → cond {A = ℕ} t 1 1 ≡ 1
    go true = refl
    go false = refl

pub in_c_lem : (a b x : ℕ) → in_tri (record { a = a; b = b; c = x }) x ≡ 1
unfolding in_tri
in_c_lem a b x = rw (eq-eqb x x refl) (go (eqb a x) (eqb b x))
  where
    go : (t u : Bool) → cond {A = ℕ} t 1 (cond u 1 1) ≡ 1
    go true u = refl
    go false true = refl
    go false false = refl

pub in_none : (a b c x : ℕ) → x ≢ a → x ≢ b → x ≢ c → in_tri (record { a = a; b = b; c = c }) x ≡ 0
unfolding in_tri
in_none a b c x f g h = rw (ne_eqb a x (λ z. f (sym z)), ne_eqb b x (λ z. g (sym z)), ne_eqb c x (λ z. h (sym z)))

-- a vertex of an own triangle is one of the run's
pub own_in : (lo hi : ℕ) (t : Tri) (x : ℕ) → Own lo hi t → in_tri t x ≡ 1 → In lo hi x
own_in lo hi t x o e = go (ℕ_discrete x t.a) (ℕ_discrete x t.b) (ℕ_discrete x t.c)
  where
    go : Dec (x ≡ t.a) → Dec (x ≡ t.b) → Dec (x ≡ t.c) → In lo hi x
    go (yes f) g h = rw f o.in_a
    go (no f) (yes g) h = rw g o.in_b
    go (no f) (no g) (yes h) = rw h o.in_c
    go (no f) (no g) (no h) = absurd (omega (arith, in_none t.a t.b t.c x f g h))

-- and one from hi on is not
pub own_none : (lo hi : ℕ) (t : Tri) (x : ℕ) → Own lo hi t → hi ≤ x → in_tri t x ≡ 0
own_none lo hi t x o h = in_none t.a t.b t.c x (λ z. omega (arith, o.in_a)) (λ z. omega (arith, o.in_b)) (λ z. omega (arith, o.in_c))

pub own_wider : (lo hi m : ℕ) (t : Tri) → hi ≤ m → Own lo hi t → Own lo m t
own_wider lo hi m t h o = record {
  ab = o.ab;
  bc = o.bc;
  ac = o.ac;
  in_a = (o.in_a.0, omega (arith, o.in_a));
  in_b = (o.in_b.0, omega (arith, o.in_b));
  in_c = (o.in_c.0, omega (arith, o.in_c));
}

pub own_append : (lo hi : ℕ) (xs ys : List Tri) → AllOwn lo hi xs → AllOwn lo hi ys → AllOwn lo hi (xs ++ ys)
own_append lo hi [] ys f g = g
own_append lo hi (x ∷ xs) ys f g = (f.0, own_append lo hi xs ys f.1 g)

pub own_has : (lo hi : ℕ) (u : Tri) (ts : List Tri) → AllOwn lo hi ts → Has u ts → Own lo hi u
own_has lo hi u [] o x = elim x [ ]
own_has lo hi u (t ∷ ts) o (first e) = rw e at o.0
own_has lo hi u (t ∷ ts) o (later h) = own_has lo hi u ts o.1 h

pub names_left : (x : ℕ) (xs ys : List Tri) → Names x xs → Names x (xs ++ ys)
names_left x [] ys n = elim n [ ]
names_left x (t ∷ xs) ys (here e) = here e
names_left x (t ∷ xs) ys (there n) = there (names_left x xs ys n)

pub names_right : (x : ℕ) (xs ys : List Tri) → Names x ys → Names x (xs ++ ys)
names_right x [] ys n = n
names_right x (t ∷ xs) ys n = there (names_right x xs ys n)
