-- What is asked of an index list, W-211's words quoted: each test is true of a fault. Assumes nothing.
use Rattle.std.specs.Prelude.{ℕ, ◌+◌, ◌*◌, ◌/◌, ◌%◌, Bool, true, not, ◌&&◌, cond, List, leb, ltb, eqb, length, get_or}
use Rattle.triangles.specs.Facts.{shared}
use Rattle.triangles.specs.Tri.{Tri}
use Rattle.inspect.specs.First.{some}

-- how many triangles a list has, and the t-th
abbrev pub triangle_count : List ℕ → ℕ
triangle_count l = length l / 3

unfoldable pub triangle_at : List ℕ → ℕ → Tri
triangle_at l t = record { a = get_or l (3 * t) 0; b = get_or l (3 * t + 1) 0; c = get_or l (3 * t + 2) 0 }

-- 20, not so that "the length is a multiple of three"
abbrev pub uneven : List ℕ → Bool
uneven l = not (eqb (length l % 3) 0)

-- 21, not so that "every number is below the count": the one at i
unfoldable pub too_large : ℕ → List ℕ → ℕ → Bool
too_large count l i = leb count (get_or l i 0)

-- 22, not so that "each triangle's three differ": those of the t-th
unfoldable pub two_alike_in : Tri → Bool
two_alike_in t = cond (eqb t.a t.b) true (cond (eqb t.b t.c) true (eqb t.a t.c))

unfoldable pub alike : List ℕ → ℕ → Bool
alike l t = two_alike_in (triangle_at l t)

-- 23, not so that "every vertex is named": v, by no number of the list
unfoldable pub names : List ℕ → ℕ → ℕ → Bool
names l v i = eqb (get_or l i 0) v

unfoldable pub unnamed : List ℕ → ℕ → Bool
unnamed l v = not (some (names l v) (length l))

-- 24, not so that "each triangle but the first shares exactly two vertices with some earlier one": the t-th, with the s-th
unfoldable pub touches : List ℕ → ℕ → ℕ → Bool
touches l t s = eqb (shared (triangle_at l s) (triangle_at l t)) 2

unfoldable pub loose : List ℕ → ℕ → Bool
loose l t = ltb 0 t && not (some (touches l t) t)
