-- What demand 3 says of a run's triangles. That it holds is in the crates above. Assumes nothing.
use Rattle.std.specs.Prelude.{ℕ, ◌+◌, ◌≤◌, ◌<◌, ◌≡◌, cond, List, [], ◌∷◌, ◌≢◌, eqb}
use Rattle.triangles.specs.Tri.{Tri}

-- each triangle names three different vertices, each numbered from lo to below hi
abbrev pub In : ℕ → ℕ → ℕ → Type 0
In lo hi x = (lo ≤ x) × (x < hi)

pub record Own (lo hi : ℕ) (t : Tri) : Type 0 where
  pub ab : t.a ≢ t.b
  pub bc : t.b ≢ t.c
  pub ac : t.a ≢ t.c
  pub in_a : In lo hi t.a
  pub in_b : In lo hi t.b
  pub in_c : In lo hi t.c

abbrev pub AllOwn : ℕ → ℕ → List Tri → Type 0
AllOwn lo hi [] = Unit
AllOwn lo hi (t ∷ ts) = Own lo hi t × AllOwn lo hi ts

-- 1 where x is one of a triangle's vertices
unfoldable pub in_tri : Tri → ℕ → ℕ
in_tri t x = cond (eqb t.a x) 1 (cond (eqb t.b x) 1 (cond (eqb t.c x) 1 0))

-- some triangle names the vertex x
pub data Names (x : ℕ) : List Tri → Type 0 where
  here : {t : Tri} {ts : List Tri} → in_tri t x ≡ 1 → Names x (t ∷ ts)
  there : {t : Tri} {ts : List Tri} → Names x ts → Names x (t ∷ ts)

-- how many of u's vertices are t's
unfoldable pub shared : Tri → Tri → ℕ
shared t u = in_tri t u.a + in_tri t u.b + in_tri t u.c

-- every triangle but the first shares exactly two vertices with the one before
abbrev pub Chain : Tri → List Tri → Type 0
Chain t [] = Unit
Chain t (u ∷ us) = (shared t u ≡ 2) × Chain u us

abbrev pub Linked : List Tri → Type 0
Linked [] = Unit
Linked (t ∷ ts) = Chain t ts
