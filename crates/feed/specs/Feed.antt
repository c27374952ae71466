-- The marks that are to come of a run, from the edge that a feed is on. Assumes nothing.
use Rattle.std.specs.Prelude.{ℕ, ◌+◌, ◌/◌, ◌≤◌, ◌<◌, ◌≡◌, Bool, false, cond, Option, Some, None, MatchOption, ⊤, List, [], ◌∷◌, ◌++◌, Float, length, drop}
use Rattle.plane.specs.F32.{f32}
use Rattle.endpoint.specs.Endpoint.{id_limit}
use Rattle.endpoint.specs.declared.Endpoint.{Endpoint}
use Rattle.lists.specs.All.{All}
use Rattle.kept.specs.Kept.{near, kept_behind}
use Rattle.kept.specs.Points.{endpoints_of, endpoint_at}
use Rattle.dashes.specs.Pattern.{wear_limit}
use Rattle.dashes.specs.Marks.{spot_of, turned_of, marks_from, cut_limit}
use Rattle.dashes.specs.declared.spot.Mark.{Mark}
use Rattle.dashes.specs.declared.spot.Mark.TheVariants.{Cut, Corner}
use Rattle.dashes.specs.declared.pattern.Beat.{Beat}
use Rattle.dashes.specs.declared.spot.Spot.{Spot}
use Rattle.cuts.specs.Cuts.{cut_count}
use Rattle.feed.specs.declared.Feed.{Feed}
use Rattle.feed.specs.declared.Fed.{Fed}

-- a u32 holds the number of an endpoint, also where the list of its two coordinates begins with it
abbrev pub WellNumbered : Endpoint → Type 0
WellNumbered q = q.id.0 + 2 < id_limit

-- so of every mark
unfoldable pub MarkNumbered : Mark → Type 0
MarkNumbered (Cut q) = WellNumbered q
MarkNumbered (Corner q) = WellNumbered q

-- behind an edge's own marks: the marks of the edges through ps
unfoldable pub onward : List Float → Spot → List Endpoint → List Mark
onward ds s [] = []
onward ds s (p ∷ ps) = marks_from ds (turned_of s p) ps

-- a run's start, whose second kept point stands at i
abbrev pub first_feed : List Float → ℕ → ℕ → Bool → Beat → Feed
first_feed p first i closed b = record { spot = spot_of (endpoint_at p first 0) (f32 0) (endpoint_at p first i) b; next = i + 1; closes = closed }

module _ (limit : Float) (p : List Float) (first : ℕ) where
  -- the points from i to r are near a, and the one at r is not or r is the number of points
  pub record NextFar (a : Endpoint) (i r : ℕ) : Type 0 where
    pub within : r ≤ length p / 2
    pub kept : kept_behind limit a (drop i (endpoints_of first p)) ≡ kept_behind limit a (drop r (endpoints_of first p))
    pub far : r < length p / 2 → near limit a (endpoint_at p first r) ≡ false

  -- the kept points behind the feed's edge; "a closed run is cut from p0", and its closing edge is one of its edges
  abbrev pub ahead : Feed → List Endpoint
  ahead f = kept_behind limit f.spot.to (drop f.next (endpoints_of first p)) ++ cond f.closes (endpoint_at p first 0 ∷ []) []

  -- the marks that are to come; none without a feed
  unfoldable pub comes : List Float → Option Feed → List Mark
  comes ds None = []
  comes ds (Some f) = marks_from ds f.spot (ahead f)

  -- past the corner: the same are to come, and the next cut is the same
  pub record Turns (f : Feed) (r : Option Feed) : Type 0 where
    pub same : (ds : List Float) → onward ds f.spot (ahead f) ≡ comes ds r
    pub within : MatchOption r ⊤ (λ (g : Feed). g.next ≤ length p / 2)
    pub beat : MatchOption r ⊤ (λ (g : Feed). g.spot.beat ≡ f.spot.beat)

  module _ (ds : List Float) where
    -- what a feed needs: "over 65,536 cut points in all" are refused, so that the lengths' numbers are few
    pub record FeedFits (f : Option Feed) : Type 0 where
      pub some : 0 < length ds
      pub point : 2 ≤ length p
      pub few : first + length p < id_limit
      pub within : MatchOption f ⊤ (λ (g : Feed). g.next ≤ length p / 2)
      pub cuts : cut_count (comes ds f) ≤ cut_limit
      pub index : MatchOption f ⊤ (λ (g : Feed). g.spot.beat.index + cut_count (comes ds f) ≤ wear_limit + cut_limit)
      pub numbered : All MarkNumbered (comes ds f)

    -- the next mark, and those behind it
    pub record Feeds (f : Feed) (r : Fed) : Type 0 where
      pub marks : comes ds (Some f) ≡ r.mark ∷ comes ds r.feed
      pub fits : FeedFits r.feed
