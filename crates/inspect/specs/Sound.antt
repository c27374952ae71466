-- "it says yes exactly when": both questions in W-211's words, with no test. That 0 is answered exactly then is proofs/Exact.antt. Assumes nothing.
use Rattle.std.specs.Prelude.{ℕ, ◌%◌, ◌<◌, ◌≡◌, List, ◌≢◌, length, get_or}
use Rattle.triangles.specs.Facts.{shared}
use Rattle.triangles.specs.Tri.{Tri}
use Rattle.inspect.specs.Faults.{triangle_count, triangle_at}

-- the list has x somewhere
pub record Has (x : ℕ) (l : List ℕ) : Type 0 where
  pub at : ℕ
  pub low : at < length l
  pub is : get_or l at 0 ≡ x

pub record Differ (t : Tri) : Type 0 where
  pub ab : t.a ≢ t.b
  pub bc : t.b ≢ t.c
  pub ac : t.a ≢ t.c

pub record Sound (count : ℕ) (l : List ℕ) : Type 0 where
  -- "the length is a multiple of three"
  pub threes : length l % 3 ≡ 0
  -- "every number is below the count"
  pub below : (i : ℕ) → i < length l → get_or l i 0 < count
  -- "each triangle's three differ"
  pub differ : (t : ℕ) → t < triangle_count l → Differ (triangle_at l t)
  -- "every vertex is named"
  pub named : (v : ℕ) → v < count → Has v l

-- the t-th triangle "shares exactly two vertices with some earlier one"
pub record Held (l : List ℕ) (t : ℕ) : Type 0 where
  pub by : ℕ
  pub earlier : by < t
  pub two : shared (triangle_at l by) (triangle_at l t) ≡ 2

-- "each triangle but the first"
abbrev pub Attached : List ℕ → Type 0
Attached l = (t : ℕ) → 0 < t → t < triangle_count l → Held l t
