-- The points of a dash one by one, and the dashes. The plan: one mark more, near or far (`Going`, the walk of `next_point`); one mark more in a gap (`Seeking`, that of
-- `next_dash`); a dash and those behind it (`dashes_split`); its points are numbered. Assumes nothing.
use Prim.Native.Nat.{ℕ, ◌<◌}
use mathlib.Core.Path.{◌≡◌, refl, sym, ap, ◌∙◌}
use mathlib.Core.Bool.{Bool, true, false, cond}
use mathlib.Core.Logic.{◌⊎◌, inl, inr}
use mathlib.Core.List.{List, [], ◌∷◌, ◌++◌, append-nil, append_assoc}
use native.Mathlib.Omega.{arith}
use lib.Ieee.{Float}
use lib.ListN.{length}
use Rattle.std.specs.Prelude.{Option, Some, None}
use Rattle.endpoint.specs.declared.Endpoint.{Endpoint}
use Rattle.lists.specs.All.{All}
use Rattle.kept.specs.Kept.{near, kept_behind}
use Rattle.kept.proofs.Further.{keep_near, keep_far}
use Rattle.kept.proofs.Keeping.{behind_all}
use Rattle.dashes.specs.declared.spot.Mark.{Mark}
use Rattle.dashes.specs.declared.spot.Mark.TheVariants.{Cut, Corner}
use Rattle.dashes.specs.Dashes.{dashes_from}
use Rattle.feed.specs.Feed.{WellNumbered, MarkNumbered, comes, FeedFits, Feeds}
use Rattle.feed.specs.Trail.{dash_points, dash_behind, trail_points, trail_behind, Follows, TrailFits, Begins}
use Rattle.feed.specs.declared.Feed.{Feed}
use Rattle.feed.specs.declared.Fed.{Fed}
use Rattle.feed.specs.declared.trail.Trail.{Trail}

-- ---- a dash and those behind it
dashes_inside : (ps : List Endpoint) (ms : List Mark) → dashes_from true ps ms ≡ (ps ++ dash_points ms) ∷ dashes_from false [] (dash_behind ms)
unfolding dashes_from dash_points dash_behind
dashes_inside ps [] = rw (append-nil ps)
dashes_inside ps (Corner q ∷ ms) = dashes_inside (ps ++ q ∷ []) ms ∙ rw (append_assoc ps (q ∷ []) (dash_points ms))
dashes_inside ps (Cut q ∷ ms) = refl

pub dashes_split : (p0 : Endpoint) (ms : List Mark) → dashes_from true (p0 ∷ []) ms ≡ (p0 ∷ dash_points ms) ∷ dashes_from false [] (dash_behind ms)
dashes_split p0 ms = dashes_inside (p0 ∷ []) ms

points_counted : (ms : List Mark) → All MarkNumbered ms → All WellNumbered (dash_points ms)
unfolding dash_points MarkNumbered
points_counted [] g = tt
points_counted (Corner q ∷ ms) g = (g.0, points_counted ms g.1)
points_counted (Cut q ∷ ms) g = (g.0, tt)

-- ---- one mark: q is the next point of the dash, which goes on unless it is a cut
abbrev pub Told : Mark → Endpoint → Bool → Type 0
Told m q on = ((m ≡ Cut q) × (on ≡ false)) ⊎ ((m ≡ Corner q) × (on ≡ true))

points_at : (m : Mark) (q : Endpoint) (on : Bool) (ms : List Mark) → Told m q on → dash_points (m ∷ ms) ≡ q ∷ cond on (dash_points ms) []
unfolding dash_points
points_at m q on ms (inl h) = rw (h.0, h.1)
points_at m q on ms (inr h) = rw (h.0, h.1)

behind_at : (m : Mark) (q : Endpoint) (on : Bool) (ms : List Mark) → Told m q on → dash_behind (m ∷ ms) ≡ cond on (dash_behind ms) ms
unfolding dash_behind
behind_at m q on ms (inl h) = rw (h.0, h.1)
behind_at m q on ms (inr h) = rw (h.0, h.1)

module _ (limit : Float) (p : List Float) (first : ℕ) (ds : List Float) where
  abbrev marks : Option Feed → List Mark
  marks f = comes limit p first ds f

  -- without a feed none is to come
  none : (f : Option Feed) → f ≡ None → marks f ≡ []
  unfolding comes
  none f h = rw h

  -- behind a mark one fewer is to come
  pub fewer : (f : Option Feed) (g : Feed) → f ≡ Some g → (m : Fed) → Feeds limit p first ds g m → length (marks m.feed) < length (marks f)
  fewer f g h m e = rw (h, e.marks) (omega arith)

  pub trail_counted : (t : Trail) → TrailFits limit p first ds t → All WellNumbered (t.last ∷ trail_points limit p first ds t)
  trail_counted t w = (w.last, behind_all limit WellNumbered t.last (cond t.on (dash_points (marks t.feed)) []) (go t.on))
    where
      go : (b : Bool) → All WellNumbered (cond b (dash_points (marks t.feed)) [])
      go true = points_counted (marks t.feed) w.feed.numbered
      go false = tt

  -- ---- the walk to the next kept point: what is to come of the dash is still to come
  pub record Going (t u : Trail) : Type 0 where
    pub points : trail_points limit p first ds t ≡ trail_points limit p first ds u
    pub behind : trail_behind limit p first ds t ≡ trail_behind limit p first ds u
    pub fits : FeedFits limit p first ds u.feed

  module _ (t u : Trail) (g : Going t u) where
    module _ (f : Feed) (on : u.on ≡ true) (feed : u.feed ≡ Some f) (m : Fed) (e : Feeds limit p first ds f m) (q : Endpoint) (b : Bool) (told : Told m.mark q b) where
      points_next : trail_points limit p first ds u ≡ kept_behind limit u.last (q ∷ cond b (dash_points (marks m.feed)) [])
      points_next = rw (on, feed, e.marks) (ap (kept_behind limit u.last) (points_at m.mark q b (marks m.feed) told))

      behind_next : trail_behind limit p first ds u ≡ cond b (dash_behind (marks m.feed)) (marks m.feed)
      behind_next = rw (on, feed, e.marks) (behind_at m.mark q b (marks m.feed) told)

      pub going_near : near limit u.last q ≡ true → Going t (record { last = u.last; on = b; feed = m.feed })
      going_near h = record { points = g.points ∙ points_next ∙ keep_near limit u.last q _ h; behind = g.behind ∙ behind_next; fits = e.fits }

      pub going_far : near limit u.last q ≡ false → Follows limit p first ds t (Some q) (record { last = q; on = b; feed = m.feed })
      going_far h = record { points = g.points ∙ points_next ∙ keep_far limit u.last q _ h; behind = g.behind ∙ behind_next; last = refl; fits = e.fits }

    ended : (u.on ≡ false) ⊎ (u.feed ≡ None) → (trail_points limit p first ds u ≡ []) × (marks u.feed ≡ trail_behind limit p first ds u)
    unfolding kept_behind dash_points dash_behind
    ended (inl h) = (rw h, rw h)
    ended (inr h) = (go u.on, go' u.on)
      where
        go : (b : Bool) → kept_behind limit u.last (cond b (dash_points (marks u.feed)) []) ≡ []
        go true = rw (none u.feed h)
        go false = refl

        go' : (b : Bool) → marks u.feed ≡ cond b (dash_behind (marks u.feed)) (marks u.feed)
        go' true = rw (none u.feed h)
        go' false = refl

    pub going_end : (u.on ≡ false) ⊎ (u.feed ≡ None) → Follows limit p first ds t None u
    going_end h = let z = ended h in record { points = g.points ∙ z.0; behind = g.behind ∙ sym z.1; last = tt; fits = g.fits }

  -- ---- the walk through a gap
  pub record Seeking (f g : Option Feed) : Type 0 where
    pub same : dashes_from false [] (marks f) ≡ dashes_from false [] (marks g)
    pub fits : FeedFits limit p first ds g

  module _ (f g : Option Feed) (s : Seeking f g) where
    module _ (h : Feed) (is : g ≡ Some h) (m : Fed) (e : Feeds limit p first ds h m) (q : Endpoint) where
      pub seek_cut : m.mark ≡ Cut q → Begins limit p first ds f (Some (record { last = q; on = true; feed = m.feed }))
      unfolding dashes_from MarkNumbered
      seek_cut c =
          let n : All MarkNumbered (Cut q ∷ marks m.feed) = rw (is, e.marks, c) at s.fits.numbered in
          record { dashes = s.same ∙ rw (is, e.marks, c); fits = record { on = refl; fits = record { last = n.0; feed = e.fits } } }

      pub seek_on : m.mark ≡ Corner q → Seeking f m.feed
      unfolding dashes_from
      seek_on c = record { same = s.same ∙ rw (is, e.marks, c); fits = e.fits }

    pub seek_end : g ≡ None → Begins limit p first ds f None
    unfolding dashes_from
    seek_end n = record { dashes = s.same ∙ rw (none g n); fits = tt }
