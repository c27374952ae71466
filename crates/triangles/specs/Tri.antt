-- "three .. to a triangle": the numbers of its three vertices. Assumes nothing.
use Rattle.std.specs.Prelude.{ℕ, List, [], ◌∷◌}

pub record Tri : Type 0 where
  pub a : ℕ
  pub b : ℕ
  pub c : ℕ

abbrev pub numbers_of : Tri → List ℕ
numbers_of t = t.a ∷ t.b ∷ t.c ∷ []
