-- What is written behind what stands: a piece by the number of its first vertex, one behind the other. Assumes nothing.
use Rattle.std.specs.Prelude.{ℕ, ◌+◌, Bool, cond, List, [], length}
use Rattle.pieces.specs.Piece.{next_vertex, Piece, none, joined, Lists, Fits, Passes}
use Rattle.pieces.specs.declared.Place.{Place}
use Rattle.triangles.specs.Tri.{Tri}

-- nothing
abbrev pub nothing : ℕ → Piece
nothing i = none

-- triangles alone
abbrev pub faces : List Tri → ℕ → Piece
faces ts i = record { vertices = []; triangles = ts }

-- one where the test holds
abbrev pub given : Bool → (ℕ → Piece) → ℕ → Piece
given test f i = cond test (f i) none

-- one behind the other
unfoldable pub then : (ℕ → Piece) → (ℕ → Piece) → ℕ → Piece
then f g i = joined (f i) (g (i + length (f i).vertices))

-- what a pass needs that writes it at a place, or only counts it, and what it does
abbrev pub WeftFits : Bool → Place → (ℕ → Piece) → Lists → Type 0
WeftFits write k f l = Fits write k (f (next_vertex k)) l

abbrev pub WeftPasses : Bool → Place → (ℕ → Piece) → Lists → Lists → Place → Type 0
WeftPasses write k f l l' k' = Passes write k (f (next_vertex k)) l l' k'
