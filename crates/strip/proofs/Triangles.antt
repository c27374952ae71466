-- Laws of triangles: when one is left out, and those between two sections. Assumes nothing.
use Prim.Native.Nat.{ℕ}
use mathlib.Core.Path.{◌≡◌, refl}
use mathlib.Core.Bool.{Bool, true, false, not, cond}
use mathlib.Core.List.{[], ◌∷◌}
use mathlib.Core.Logic.{◌≢◌}
use borrow.Author.Tests.{eq-eqb, ne_eqb}
use lib.Dec.{eqb}
use Rattle.strip.specs.declared.section.Section.{Section}
use Rattle.strip.specs.Triangle.{different, tri_of, between}

-- a triangle of three different numbers stands
pub tri_some : (a b c : ℕ) → different a b c ≡ true → tri_of a b c ≡ record { a = a; b = b; c = c } ∷ []
unfolding tri_of
tri_some a b c h = rw h

pub tri_yes : (a b c : ℕ) → a ≢ b → b ≢ c → a ≢ c → tri_of a b c ≡ record { a = a; b = b; c = c } ∷ []
unfolding different
tri_yes a b c f g h = tri_some a b c (rw (ne_eqb a b f, ne_eqb b c g, ne_eqb a c h))

-- one with two equal numbers is left out
pub tri_none : (a b c : ℕ) → different a b c ≡ false → tri_of a b c ≡ []
unfolding tri_of
tri_none a b c h = rw h

pub tri_end : (a b : ℕ) → tri_of a b b ≡ []
unfolding different
tri_end a b = tri_none a b b (go (eqb a b))
  where
    go : (t : Bool) → cond t false (cond (eqb b b) false (not (eqb a b))) ≡ false
    go true = refl
    go false = rw (eq-eqb b b refl)

pub tri_ends : (a b : ℕ) → tri_of a b a ≡ []
unfolding different
tri_ends a b = tri_none a b a (go (eqb a b) (eqb b a))
  where
    go : (t u : Bool) → cond t false (cond u false (not (eqb a a))) ≡ false
    go true u = refl
    go false true = refl
    go false false = rw (eq-eqb a a refl)

pub between_same : (s : Section) → between s s ≡ []
unfolding between
between_same s = rw (tri_end s.negative.0 s.positive.0, tri_ends s.negative.0 s.positive.0)
