-- Marks of the vertices from `base` on, 32 to a word. Assumes nothing.
use Rattle.std.specs.Prelude.{ℕ, ◌+◌, ◌*◌, ◌/◌, ◌%◌, ◌^◌, ◌<◌, ◌≡◌, Bool, true, not, cond, List, eqb, length, get_or}
use Rattle.inspect.specs.Faults.{names, unnamed}
use Rattle.inspect.specs.First.{some}

-- the j-th mark is there
unfoldable pub marked : List ℕ → ℕ → Bool
marked marks j = eqb (get_or marks (j / 32) 0 / 2 ^ (j % 32) % 2) 1

abbrev pub blank : List ℕ → ℕ → Bool
blank marks j = not (marked marks j)

-- `after` has a mark of the vertex x, where it is one of those from `base` on, and otherwise what `before` has
pub record MarkedOne (base x : ℕ) (before after : List ℕ) : Type 0 where
  pub size : length after ≡ length before
  pub marks : (j : ℕ) → j < 32 * length before → marked after j ≡ cond (eqb x (base + j)) true (marked before j)

-- the same of each vertex that the first n numbers name
pub record Marked (base : ℕ) (l : List ℕ) (n : ℕ) (before after : List ℕ) : Type 0 where
  pub size : length after ≡ length before
  pub marks : (j : ℕ) → j < 32 * length before → marked after j ≡ cond (some (names l (base + j)) n) true (marked before j)

abbrev pub unnamed_from : ℕ → List ℕ → ℕ → Bool
unnamed_from base l j = unnamed l (base + j)
