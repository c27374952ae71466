-- What the passes along a dash need and do, and where the feed stands behind it. Assumes nothing.
use Rattle.std.specs.Prelude.{ℕ, ◌≡◌, Bool, Option, MatchOption, ⊤, List, ◌∷◌, Float}
use Rattle.endpoint.specs.declared.Endpoint.{Endpoint}
use Rattle.endpoint.specs.declared.EndpointData.{EndpointData}
use Rattle.lists.specs.All.{All}
use Rattle.pieces.specs.Piece.{Piece, Lists, anew, Passes}
use Rattle.pieces.specs.declared.Place.{Place}
use Rattle.kept.specs.Looks.{run_from}
use Rattle.strip.specs.Strip.{StripPasses}
use Rattle.strip.specs.declared.Strip.{Strip}
use Rattle.along.specs.declared.Pass.{Pass}
use Rattle.fans.specs.declared.Round.{Round}
use Rattle.dashes.specs.Dashes.{dashes_of}
use Rattle.feed.specs.Feed.{WellNumbered, comes, FeedFits}
use Rattle.feed.specs.Trail.{trail_points, trail_behind, trail_dashes, DashBegins}
use Rattle.feed.specs.declared.Feed.{Feed}
use Rattle.feed.specs.declared.trail.Trail.{Trail}
use Rattle.dashed.specs.Dashed.{dash_piece}
use Rattle.dashed.specs.declared.Dash.{Dash}
use Rattle.dashed.specs.declared.Drawn.{Drawn}
use Rattle.dashed.specs.declared.strips.Stripped.{Stripped}

module _ (limit : Float) (p : List Float) (first : ℕ) where
  module _ (ds : List Float) where
    -- the kept points of a dash, from its first point on
    abbrev pub trail_kept : Trail → List Endpoint
    trail_kept t = t.last ∷ trail_points limit p first ds t

    -- the same where the second is reached
    abbrev pub dash_kept : Dash → List Endpoint
    dash_kept d = d.from ∷ trail_kept d.trail

    pub record DashFits (d : Dash) : Type 0 where
      pub feed : FeedFits limit p first ds d.trail.feed
      pub numbered : All WellNumbered (dash_kept d)

    -- a feed behind the dash
    pub record Leaves (t : Trail) (f : Option Feed) : Type 0 where
      pub behind : comes limit p first ds f ≡ trail_behind limit p first ds t
      pub fits : FeedFits limit p first ds f

  -- at the run's first dash, where it has one
  pub record Starts (i : ℕ) (closed : Bool) (ds : List Float) (offset : Float) (r : Option Trail) : Type 0 where
    pub dashes : dashes_of closed ds offset (run_from limit p first i) ≡ trail_dashes limit p first ds r
    pub fits : MatchOption r ⊤ (DashBegins limit p first ds)

module _ (pass : Pass) where
  abbrev near : Float
  near = pass.stroke.near

  -- the piece of the dash whose first point a trail is at, where it is drawn at a place
  abbrev pub next_piece : Round → List Float → ℕ → List Float → Trail → Place → Piece
  next_piece r p first ds t k = dash_piece pass.stroke r (anew k).base (trail_kept near p first ds t)

  module _ (p : List Float) (first : ℕ) (ds : List Float) (t : Trail) where
    -- the joints js are passed from the strip s on, and the dash is left
    pub record Strips (js : List EndpointData) (s : Strip) (l l' : Lists) (r : Stripped) : Type 0 where
      pub strip : StripPasses pass.write js s l l' r.strip
      pub leaves : Leaves near p first ds t r.feed

    -- the dash's piece is drawn at a place, and the dash is left
    pub record Draws (k : Place) (piece : Piece) (l l' : Lists) (r : Drawn) : Type 0 where
      pub puts : Passes pass.write k piece l l' r.place
      pub leaves : Leaves near p first ds t r.feed
