-- The points of a dash, from the marks that are to come. Assumes nothing.
use Rattle.std.specs.Prelude.{ℕ, ◌≡◌, true, false, cond, Option, Some, None, MatchOption, ⊤, List, [], ◌∷◌, Float}
use Rattle.endpoint.specs.declared.Endpoint.{Endpoint}
use Rattle.kept.specs.Kept.{kept_behind}
use Rattle.dashes.specs.declared.spot.Mark.{Mark}
use Rattle.dashes.specs.declared.spot.Mark.TheVariants.{Cut, Corner}
use Rattle.dashes.specs.Dashes.{dashes_from}
use Rattle.feed.specs.Feed.{WellNumbered, comes, FeedFits}
use Rattle.feed.specs.declared.Feed.{Feed}
use Rattle.feed.specs.declared.trail.Trail.{Trail}

-- inside a dash: its points up to the cut that ends it, and the marks behind that
unfoldable pub dash_points : List Mark → List Endpoint
dash_points [] = []
dash_points (Corner q ∷ ms) = q ∷ dash_points ms
dash_points (Cut q ∷ ms) = q ∷ []

unfoldable pub dash_behind : List Mark → List Mark
dash_behind [] = []
dash_behind (Corner q ∷ ms) = dash_behind ms
dash_behind (Cut q ∷ ms) = ms

module _ (limit : Float) (p : List Float) (first : ℕ) (ds : List Float) where
  -- the kept points of the dash that are to come
  abbrev pub trail_points : Trail → List Endpoint
  trail_points t = kept_behind limit t.last (cond t.on (dash_points (comes limit p first ds t.feed)) [])

  -- the marks behind the dash
  abbrev pub trail_behind : Trail → List Mark
  trail_behind t = let ms = comes limit p first ds t.feed in cond t.on (dash_behind ms) ms

  -- where a look for the next point has found one, the trail goes on to it: the kept points that are to come, and the marks behind the dash
  abbrev pub next_points : Option Endpoint → Trail → List Endpoint
  next_points None t = []
  next_points (Some q) t = q ∷ trail_points t

  abbrev pub next_behind : Option Endpoint → Trail → List Mark
  next_behind None t = comes limit p first ds t.feed
  next_behind (Some q) t = trail_behind t

  -- a look leaves them as they are, and the trail at the point
  pub record Follows (t : Trail) (r : Option Endpoint) (t' : Trail) : Type 0 where
    pub points : trail_points t ≡ next_points r t'
    pub behind : trail_behind t ≡ next_behind r t'
    pub last : MatchOption r ⊤ (λ (q : Endpoint). t'.last ≡ q)
    pub fits : FeedFits limit p first ds t'.feed

  -- the dashes that are to come, where a trail is at the first point of a dash; none without a trail
  abbrev pub trail_dashes : Option Trail → List (List Endpoint)
  trail_dashes None = []
  trail_dashes (Some t) = dashes_from true (t.last ∷ []) (comes limit p first ds t.feed)

  pub record TrailFits (t : Trail) : Type 0 where
    pub last : WellNumbered t.last
    pub feed : FeedFits limit p first ds t.feed

  -- a trail at the first point of a dash
  pub record DashBegins (t : Trail) : Type 0 where
    pub on : t.on ≡ true
    pub fits : TrailFits t

  -- from a gap to the next dash
  pub record Begins (f : Option Feed) (r : Option Trail) : Type 0 where
    pub dashes : dashes_from false [] (comes limit p first ds f) ≡ trail_dashes r
    pub fits : MatchOption r ⊤ DashBegins
