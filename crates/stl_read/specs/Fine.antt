-- What the private writer is lent: n triangles that are all fine, and room for their corners. Assumes nothing.
use Rattle.std.specs.Prelude.{ℕ, ◌*◌, ◌≤◌, ◌<◌, List, T, Float, length}
use Rattle.stl.specs.File.{size_of}
use Rattle.stl.specs.Read.{fine_facet}

pub record PutsAll (c : List Float) (b : List ℕ) (n : ℕ) : Type 0 where
  pub room : 6 * n ≤ length c
  pub bytes : size_of n ≤ length b
  pub fine : (k : ℕ) → k < n → T (fine_facet b k)
