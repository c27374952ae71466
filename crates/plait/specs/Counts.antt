-- Demand 3's counts of what a run draws. Assumes nothing.
use Rattle.std.specs.Prelude.{ℕ, ◌+◌, ◌≡◌, Bool, cond, length}
use Rattle.pieces.specs.Piece.{Piece}

-- n vertices, and as many triangles in a closed run, two fewer in an open one
pub record Counted (closed : Bool) (n : ℕ) (p : Piece) : Type 0 where
  pub vertices : length p.vertices ≡ n
  pub triangles : cond closed (length p.triangles) (2 + length p.triangles) ≡ n
