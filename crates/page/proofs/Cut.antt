-- The page of lists that are cut to their lengths is that of the lists. Assumes nothing.
use Prim.Native.Nat.{ℕ, zero, suc, ◌+◌, ◌*◌, ◌/◌, ◌≤◌, ◌<◌}
use mathlib.Core.Path.{◌≡◌, refl}
use mathlib.Core.List.{List}
use native.Mathlib.Decide.{dec_le}
use native.Mathlib.Nat.{lt_of_not-le}
use native.Mathlib.Omega.{arith}
use lib.Ieee.{Float, nan}
use lib.ListN.{length, take, get_or}
use lib.Seq.{length-take-le}
use Rattle.std.proofs.lemmas.List.{get_or-take, get_or_past, length-take}
use Rattle.page.specs.Page.{AreShort, vertex_line, triangle_line, lines_to, mesh_page}

pub short_cut : (m : ℕ) (ts : List ℕ) → AreShort ts → AreShort (take m ts)
short_cut m ts s i = by (dec_le m i)
  where
    by : Dec (m ≤ i) → get_or (take m ts) i 0 < 65536
    by (no f) = rw (get_or-take m ts i 0 (lt_of_not-le f)) (s i)
    by (yes h) = rw (get_or_past (take m ts) i 0 (omega (arith, length-take m ts))) (omega arith)

lines_same : (f g : ℕ → List ℕ) (n : ℕ) → ((i : ℕ) → i < n → f i ≡ g i) → lines_to f n ≡ lines_to g n
unfolding lines_to
lines_same f g zero e = refl
lines_same f g (suc n) e = rw (lines_same f g n (λ i h. e i (omega arith)), e n (omega arith))

module _ (n m : ℕ) (vs : List Float) (ts : List ℕ) where
  vertices_cut : (i : ℕ) → i < n → vertex_line (take (5 * n) vs) i ≡ vertex_line vs i
  vertices_cut i h = rw (get_or-take (5 * n) vs (5 * i) nan (omega arith), get_or-take (5 * n) vs (5 * i + 1) nan (omega arith))

  triangles_cut : (i : ℕ) → i < m → triangle_line (take (3 * m) ts) i ≡ triangle_line ts i
  triangles_cut i h = rw (get_or-take (3 * m) ts (3 * i) 0 (omega arith), get_or-take (3 * m) ts (3 * i + 1) 0 (omega arith), get_or-take (3 * m) ts (3 * i + 2) 0 (omega arith))

  pub page_cut : 5 * n ≤ length vs → 3 * m ≤ length ts → mesh_page (length (take (5 * n) vs) / 5) (length (take (3 * m) ts) / 3) (take (5 * n) vs) (take (3 * m) ts) ≡ mesh_page n m vs ts
  unfolding mesh_page
  page_cut h k =
      let a : length (take (5 * n) vs) / 5 ≡ n = rw (length-take-le (5 * n) vs h) (omega arith) in
      let b : length (take (3 * m) ts) / 3 ≡ m = rw (length-take-le (3 * m) ts k) (omega arith) in
      rw (a, b, lines_same (vertex_line (take (5 * n) vs)) (vertex_line vs) n vertices_cut, lines_same (triangle_line (take (3 * m) ts)) (triangle_line ts) m triangles_cut)
