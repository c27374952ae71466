-- Counting along a run: what is counted and what is to come is the same at every step, through any rest of the points. Assumes nothing.
use Rattle.std.specs.Prelude.{ℕ, ◌+◌, ◌≤◌, ◌<◌, ◌≡◌, List, [], ◌∷◌, ◌++◌, Float, length, drop}
use Rattle.endpoint.specs.declared.Endpoint.{Endpoint}
use Rattle.kept.specs.Kept.{kept_behind}
use Rattle.kept.specs.Points.{endpoints_of}
use Rattle.dashes.specs.Pattern.{wear_limit}
use Rattle.dashes.specs.Marks.{marks_from, turned_of, cut_limit, cuts_enough}
use Rattle.dashes.specs.declared.pattern.Beat.{Beat}
use Rattle.dashes.specs.declared.spot.Spot.{Spot}
use Rattle.dashes.specs.declared.count.Passed.{Passed}
use Rattle.cuts.specs.Cuts.{cut_count, capped_of}

-- a pattern with lengths, its first cut, and the cuts before a run
pub record Ready (ds : List Float) (b : Beat) (n : ℕ) : Type 0 where
  pub some : 0 < length ds
  pub first : b.index ≤ wear_limit
  pub few : n ≤ cuts_enough

-- no more cuts are counted than that, and until then the cuts have numbers that count_edge takes
pub record Bounded (t : Passed) : Type 0 where
  pub few : t.count ≤ cuts_enough
  pub index : t.count ≤ cut_limit → t.spot.beat.index ≤ wear_limit + t.count

-- past the corner, on the edge to p, whose cuts are not counted yet
abbrev pub turned_at : Passed → Endpoint → Passed
turned_at t p = record { spot = turned_of t.spot p; count = t.count }

module _ (ds : List Float) where
  -- the cuts on the edges through ps, from a spot behind the cuts of its own edge
  unfoldable pub to_come : Spot → List Endpoint → ℕ
  to_come s [] = 0
  to_come s (p ∷ ps) = cut_count (marks_from ds (turned_of s p) ps)

  -- what is counted and what is to come
  abbrev pub goes_on : Passed → List Endpoint → ℕ
  goes_on t ps = capped_of (t.count + to_come t.spot ps)

  -- past the cuts of t's own edge
  pub record OnEdge (t r : Passed) : Type 0 where
    pub bounded : Bounded r
    pub to : r.spot.to ≡ t.spot.to
    pub same : (rest : List Endpoint) → capped_of (t.count + cut_count (marks_from ds t.spot rest)) ≡ goes_on r rest

module _ (limit : Float) (ds : List Float) where
  -- past a point, kept or not
  pub record Visited (t : Passed) (p : Endpoint) (r : Passed) : Type 0 where
    pub bounded : Bounded r
    pub same : (ps rest : List Endpoint) → goes_on ds t (kept_behind limit t.spot.to (p ∷ ps) ++ rest) ≡ goes_on ds r (kept_behind limit r.spot.to ps ++ rest)

  -- past the points of p from the one at i on
  pub record PointsCounted (p : List Float) (first i : ℕ) (t r : Passed) : Type 0 where
    pub bounded : Bounded r
    pub same : (rest : List Endpoint) → goes_on ds t (kept_behind limit t.spot.to (drop i (endpoints_of first p)) ++ rest) ≡ goes_on ds r rest
