-- A run's triangles: the strip's in their order, with arcs between them, whose vertices are numbered last and as written. Assumes nothing.
use Rattle.std.specs.Prelude.{ℕ, ◌+◌, ◌-◌, ◌^◌, List, [], ◌∷◌, ◌++◌, ◌≢◌}
use Rattle.triangles.specs.Tri.{Tri}
use Rattle.triangles.specs.Attached.{Spans}
use Rattle.arc.specs.Arc.{arc_triangles}

-- a triangle of the strip, or an arc of k levels from a to b; a round cap of detail k is an arc of k + 1 levels
pub data Item : Type 0 where
  one : Tri → Item
  arc : ℕ → ℕ → ℕ → Item

-- the vertices that the items add, and as many triangles
unfoldable pub added : List Item → ℕ
added [] = 0
added (one t ∷ ps) = added ps
added (arc k a b ∷ ps) = (2 ^ k - 1) + added ps

-- the strip alone
unfoldable pub strip : List Item → List Tri
strip [] = []
strip (one t ∷ ps) = t ∷ strip ps
strip (arc k a b ∷ ps) = strip ps

-- the whole, where the next arc's vertices are numbered from i on
unfoldable pub woven : ℕ → List Item → List Tri
woven i [] = []
woven i (one t ∷ ps) = t ∷ woven i ps
woven i (arc k a b ∷ ps) = arc_triangles k i a b ++ woven (i + (2 ^ k - 1)) ps

-- each arc comes behind a strip triangle that has both of its ends, which differ
abbrev pub Held : List Tri → List Item → Type 0
Held seen [] = Unit
Held seen (one t ∷ ps) = Held (t ∷ seen) ps
Held seen (arc k a b ∷ ps) = ((a ≢ b) × Spans a b seen) × Held seen ps
