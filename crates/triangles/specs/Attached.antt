-- W-209's last clause of demand 3: "with some earlier triangle of the run". Assumes nothing.
use Rattle.std.specs.Prelude.{ℕ, ◌≤◌, ◌<◌, ◌≡◌, List, [], ◌∷◌}
use Rattle.triangles.specs.Facts.{AllOwn, Names, in_tri, shared}
use Rattle.triangles.specs.Tri.{Tri}

-- u is one of the triangles
pub data Has (u : Tri) : List Tri → Type 0 where
  first : {v : Tri} {vs : List Tri} → v ≡ u → Has u (v ∷ vs)
  later : {v : Tri} {vs : List Tri} → Has u vs → Has u (v ∷ vs)

-- t shares exactly two vertices with one of the triangles
pub record Meets (t : Tri) (seen : List Tri) : Type 0 where
  pub with : Tri
  pub has : Has with seen
  pub two : shared with t ≡ 2

-- each of the triangles does with one of seen or with an earlier one of them
abbrev pub Attached : List Tri → List Tri → Type 0
Attached seen [] = Unit
Attached seen (t ∷ ts) = Meets t seen × Attached (t ∷ seen) ts

-- "every triangle of a run but the first"
abbrev pub Joined : List Tri → Type 0
Joined [] = Unit
Joined (t ∷ ts) = Attached (t ∷ []) ts

-- one of the triangles has both a and b
pub record Spans (a b : ℕ) (seen : List Tri) : Type 0 where
  pub on : Tri
  pub has : Has on seen
  pub has_a : in_tri on a ≡ 1
  pub has_b : in_tri on b ≡ 1

-- Demand 3 of a run with vertices from lo to below hi: "each triangle names three different vertices of its run, every vertex is named", and each but the first shares exactly two
-- vertices "with some earlier triangle of the run"
pub record Covers (lo hi : ℕ) (ts : List Tri) : Type 0 where
  pub own : AllOwn lo hi ts
  pub named : (x : ℕ) → lo ≤ x → x < hi → Names x ts
  pub joined : Joined ts
