-- What a fine triangle of a file has: patterns that may be made floats. Assumes nothing.
use Prim.Native.Nat.{ℕ, ◌+◌}
use mathlib.Core.Bool.{not, ◌&&◌}
use mathlib.Core.List.{List}
use lib.Dec.{T}
use lib.Ieee.{binary32, nan_bits}
use Rattle.stl.specs.Bytes.{word_at}
use Rattle.stl.specs.Corner.{finite_corner, is_zero}
use Rattle.stl.specs.File.{size_of, corner_at, z_at}
use Rattle.stl.specs.Read.{fine_corner, fine_facet}
use Rattle.stl.proofs.Corner.{both, corner_finite, pattern_no_nan}

module _ (b : List ℕ) where
  pub corner_patterns : (i : ℕ) → T (fine_corner b i) → T (not (nan_bits binary32 (word_at b i))) × T (not (nan_bits binary32 (word_at b (i + 4))))
  unfolding fine_corner
  corner_patterns i h =
      let f = corner_finite (corner_at b i) (both (finite_corner (corner_at b i)) (is_zero (z_at b i)) h).0 in
      (pattern_no_nan (word_at b i) f.0, pattern_no_nan (word_at b (i + 4)) f.1)

  pub facet_corners : (k : ℕ) → T (fine_facet b k) → T (fine_corner b (size_of k + 12)) × T (fine_corner b (size_of k + 24)) × T (fine_corner b (size_of k + 36))
  unfolding fine_facet
  facet_corners k h =
      let i = fine_corner b (size_of k + 12) in
      let j = fine_corner b (size_of k + 24) in
      let a = both (i && j) (fine_corner b (size_of k + 36)) h in
      let d = both i j a.0 in
      (d.0, d.1, a.1)
