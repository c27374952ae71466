-- Runs that follow one another: the triangles of each, and of all. Assumes nothing.
use Rattle.std.specs.Prelude.{ℕ, suc, ◌≤◌, List, [], ◌∷◌, length}
use Rattle.lists.specs.Over.{flat}
use Rattle.triangles.specs.Attached.{Joined}
use Rattle.triangles.specs.Facts.{In, AllOwn, Names}
use Rattle.triangles.specs.Tri.{Tri}

-- of all runs, one after another
abbrev pub together : List (List Tri) → List Tri
together = flat (λ ts. ts)

-- how many runs have triangles, and how many triangles the first of these has
unfoldable pub drawn_runs : List (List Tri) → ℕ
drawn_runs [] = 0
drawn_runs ([] ∷ tss) = drawn_runs tss
drawn_runs ((t ∷ ts) ∷ tss) = suc (drawn_runs tss)

unfoldable pub first_drawn : List (List Tri) → ℕ
first_drawn [] = 0
first_drawn ([] ∷ tss) = first_drawn tss
first_drawn ((t ∷ ts) ∷ tss) = suc (length ts)

-- demand 3 of each run: the vertices are numbered from lo to below hi, each run's after those of the one before
pub data Runs : ℕ → ℕ → List (List Tri) → Type 0 where
  none : {k : ℕ} → Runs k k []
  run : {lo mid hi : ℕ} {ts : List Tri} {tss : List (List Tri)} → lo ≤ mid → AllOwn lo mid ts → ((x : ℕ) → In lo mid x → Names x ts) → Joined ts → Runs mid hi tss → Runs lo hi (ts ∷ tss)
