-- The weaving along a dash. The plan: of the joints that the dash's points and its end bring, the rest is to come (`Weaving`), point by point; behind the last point
-- the end cap is; then all of a dash, by what woven says of an open run. Assumes nothing.
use Prim.Native.Nat.{ℕ}
use mathlib.Core.Path.{◌≡◌, refl}
use mathlib.Core.Bool.{Bool, true, false}
use mathlib.Core.List.{List, [], ◌∷◌, ◌++◌}
use lib.Ieee.{Float}
use Rattle.std.specs.Prelude.{Some, None}
use Rattle.endpoint.specs.declared.VertexId.{VertexId}
use Rattle.lists.specs.All.{All}
use Rattle.pieces.specs.Piece.{Lists, lent, from}
use Rattle.options.specs.declared.Stroke.{Stroke}
use Rattle.endpoint.specs.declared.Endpoint.{Endpoint}
use Rattle.kept.proofs.Numbered.{Numbered}
use Rattle.joints.specs.Joint.{start_cap_of}
use Rattle.joints.specs.Leg.{first_leg_of, next_leg_of}
use Rattle.joints.specs.declared.leg.Leg.{Leg}
use Rattle.strip.specs.Strip.{StripFits, start_of}
use Rattle.along.specs.declared.Pass.{Pass}
use Rattle.fans.specs.Weft.{WeftPasses}
use Rattle.fans.specs.declared.Round.{Round}
use Rattle.bends.specs.Weave.{WeaveFits, WeavePasses}
use Rattle.bends.specs.declared.Bend.{Bend}
use Rattle.bends.specs.declared.Weave.{Weave}
use Rattle.bends.proofs.Pending.{Midway, midway_start, midway_has, midway_put, midway_end}
use Rattle.kept.specs.Points.{endpoints_of}
use Rattle.weave.specs.Points.{bends_from, bends_of, end_bend, advanced, passed}
use Rattle.weave.specs.Walk.{Walks, opened_of}
use Rattle.weave.specs.declared.Walk.{Walk}
use Rattle.woven.specs.Woven.{woven_of, WovenFits}
use Rattle.woven.proofs.Runs.{cap_fits, open_fits, open_passes}
use Rattle.feed.specs.Feed.{WellNumbered, FeedFits}
use Rattle.feed.specs.Trail.{trail_points, Follows}
use Rattle.feed.specs.declared.trail.Trail.{Trail}
use Rattle.dashed.proofs.Following.{counted_here, counted_on}

bends_on : (o : Stroke) (leg : Leg) (q : Endpoint) (qs : List Endpoint) → bends_from false o leg (q ∷ qs) ≡ advanced o leg q ++ bends_from false o (next_leg_of o.half_width leg q) qs
unfolding bends_from
bends_on o leg q qs = refl

bends_end : (o : Stroke) (leg : Leg) → bends_from false o leg [] ≡ end_bend o leg ∷ []
unfolding bends_from
bends_end o leg = refl

-- a point is passed as a list of one
pub one_woven : (o : Stroke) (leg : Leg) (q : Endpoint) → passed true o leg (endpoints_of q.id.0 (q.position.x ∷ q.position.y ∷ [])) ≡ advanced o leg q
unfolding endpoints_of bends_from
one_woven o leg q = refl

module _ (pass : Pass) (r : Round) (p : List Float) (first : ℕ) (ds : List Float) where
  abbrev o : Stroke
  o = pass.stroke

  -- the joints that are to come
  abbrev rest : Walk → Trail → List Bend
  rest w t = bends_from false o w.leg (trail_points o.near p first ds t)

  pub record Weaving (w0 : Walk) (t0 : Trail) (l0 : Lists) (w : Walk) (t : Trail) (l : Lists) : Type 0 where
    pub midway : Midway pass.write o r w0.weave (rest w0 t0) l0 (rest w t) w.weave l
    pub fits : FeedFits o.near p first ds t.feed
    pub counted : All WellNumbered (trail_points o.near p first ds t)

  pub weaving_none : (w : Walk) (t : Trail) (l : Lists) → FeedFits o.near p first ds t.feed → All WellNumbered (trail_points o.near p first ds t) → Weaving w t l w t l
  weaving_none w t l f g = record { midway = midway_start; fits = f; counted = g }

  module _ {w0 : Walk} {t0 : Trail} {l0 : Lists} {w : Walk} {t : Trail} {l : Lists} (s : Weaving w0 t0 l0 w t l) where
    module _ (q : Endpoint) (u : Trail) (f : Follows o.near p first ds t (Some q) u) where
      next : rest w t ≡ advanced o w.leg q ++ bends_from false o (next_leg_of o.half_width w.leg q) (trail_points o.near p first ds u)
      next = rw f.points (bends_on o w.leg q (trail_points o.near p first ds u))

      pub turn_counted : WellNumbered q
      turn_counted = counted_here o.near p first ds t q u f s.counted

      pub turn_has : WeaveFits pass.write o r w0.weave (rest w0 t0) l0 → WeaveFits pass.write o r w.weave (advanced o w.leg q) l
      turn_has h = midway_has (advanced o w.leg q) _ h (rw next at s.midway)

      pub turn : {w1 : Walk} {l1 : Lists} → Walks pass r (advanced o w.leg q) (next_leg_of o.half_width w.leg q) w l l1 w1 → Weaving w0 t0 l0 w1 u l1
      turn e = record {
        midway = rw e.leg (midway_put (advanced o w.leg q) _ (rw next at s.midway) e.puts);
        fits = f.fits;
        counted = counted_on o.near p first ds t q u f s.counted;
      }

    module _ (u : Trail) (f : Follows o.near p first ds t None u) where
      last : rest w t ≡ (end_bend o w.leg ∷ []) ++ []
      last = rw f.points (bends_end o w.leg)

      pub end_has : WeaveFits pass.write o r w0.weave (rest w0 t0) l0 → WeaveFits pass.write o r w.weave (end_bend o w.leg ∷ []) l
      end_has h = midway_has (end_bend o w.leg ∷ []) [] h (rw last at s.midway)

      pub end : {q : Weave} {l1 : Lists} → WeavePasses pass.write o r (end_bend o w.leg ∷ []) w.weave l l1 q
          → WeavePasses pass.write o r (bends_from false o w0.leg (trail_points o.near p first ds t0)) w0.weave l0 l1 q
      end e = midway_end (midway_put (end_bend o w.leg ∷ []) [] (rw last at s.midway) e)

-- ---- all of a dash
module _ (o : Stroke) (r : Round) (a b : Endpoint) (qs : List Endpoint) {leg : Leg} (is : leg ≡ first_leg_of o.half_width a b) (base : VertexId) where
  module _ {write : Bool} {arcs : VertexId} {l : Lists} (h : WovenFits write false o r base (a ∷ b ∷ qs) (from arcs) l) where
    pub begin_has : StripFits false (start_of base) (start_cap_of o leg ∷ []) (lent [] [] [])
    begin_has = rw is (cap_fits o r base a b qs h (lent [] [] []))

    pub on_has : {w : Weave} → w ≡ opened_of o r leg base arcs → All Numbered (a ∷ b ∷ qs) → WeaveFits write o r w (bends_from false o leg qs) l
    unfolding bends_of
    on_has e g = rw (e, is) (open_fits o r base a b qs h g)

  pub dash_woven : {write : Bool} {arcs : VertexId} {w q : Weave} {l l1 : Lists} → w ≡ opened_of o r leg base arcs → WeavePasses write o r (bends_from false o leg qs) w l l1 q
      → WeftPasses write (from arcs) (woven_of false o r base (a ∷ b ∷ qs)) l l1 q.place
  unfolding bends_of
  dash_woven e f = open_passes o r base a b qs (rw (e, is) at f)
