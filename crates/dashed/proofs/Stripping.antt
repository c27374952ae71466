-- The strip along a dash. The plan: of the joints that the dash's points and its end bring, the rest is to come (`Stripping`), point by point; behind the last point
-- the end cap is; before the first the start cap. Assumes nothing.
use Prim.Native.Nat.{ℕ}
use mathlib.Core.Path.{◌≡◌, refl, sym, ◌∙◌}
use mathlib.Core.Bool.{true, false}
use mathlib.Core.List.{List, [], ◌∷◌, ◌++◌}
use lib.Ieee.{Float}
use Rattle.std.specs.Prelude.{Some, None}
use Rattle.endpoint.specs.declared.Endpoint.{Endpoint}
use Rattle.endpoint.specs.declared.EndpointData.{EndpointData}
use Rattle.endpoint.specs.declared.VertexId.{VertexId}
use Rattle.lists.specs.All.{All}
use Rattle.pieces.specs.Piece.{Lists}
use Rattle.options.specs.declared.Stroke.{Stroke}
use Rattle.joints.specs.Joint.{start_cap_of, end_cap_of, joints_from, joints_of}
use Rattle.joints.specs.Leg.{first_leg_of, next_leg_of}
use Rattle.joints.specs.declared.leg.Leg.{Leg}
use Rattle.strip.specs.Strip.{StripFits, StripPasses, start_of}
use Rattle.strip.specs.declared.Strip.{Strip}
use Rattle.strip.proofs.Pending.{has_front, has_back, puts_both, Midway, midway_start, midway_has, midway_put, midway_end}
use Rattle.kept.specs.Points.{endpoints_of}
use Rattle.along.specs.Points.{advanced, visit_of, walked, passed}
use Rattle.along.specs.Walk.{Walks}
use Rattle.along.specs.declared.Pass.{Pass}
use Rattle.along.specs.declared.Walk.{Walk}
use Rattle.feed.specs.Feed.{WellNumbered, FeedFits}
use Rattle.feed.specs.Trail.{trail_points, trail_behind, Follows}
use Rattle.feed.specs.declared.trail.Trail.{Trail}
use Rattle.dashed.specs.Passes.{Strips}
use Rattle.dashed.specs.declared.strips.Stripped.{Stripped}
use Rattle.dashed.proofs.Following.{counted_here, counted_on}

joints_on : (o : Stroke) (leg : Leg) (q : Endpoint) (qs : List Endpoint) → joints_from false o leg (q ∷ qs) ≡ advanced o leg q ++ joints_from false o (next_leg_of o.half_width leg q) qs
unfolding joints_from
joints_on o leg q qs = refl

joints_end : (o : Stroke) (leg : Leg) → joints_from false o leg [] ≡ end_cap_of o leg ∷ []
unfolding joints_from
joints_end o leg = refl

-- a point is passed as a list of one
pub one_passed : (o : Stroke) (leg : Leg) (q : Endpoint) → passed true o leg (endpoints_of q.id.0 (q.position.x ∷ q.position.y ∷ [])) ≡ advanced o leg q
unfolding endpoints_of joints_from
one_passed o leg q = refl

pub one_walked : (o : Stroke) (leg : Leg) (q : Endpoint) → walked true o leg (endpoints_of q.id.0 (q.position.x ∷ q.position.y ∷ [])) ≡ next_leg_of o.half_width leg q
unfolding endpoints_of walked visit_of
one_walked o leg q = refl

module _ (pass : Pass) (p : List Float) (first : ℕ) (ds : List Float) where
  abbrev o : Stroke
  o = pass.stroke

  -- the joints that are to come
  abbrev rest : Walk → Trail → List EndpointData
  rest w t = joints_from false o w.leg (trail_points o.near p first ds t)

  pub record Stripping (w0 : Walk) (t0 : Trail) (l0 : Lists) (w : Walk) (t : Trail) (l : Lists) : Type 0 where
    pub midway : Midway pass.write w0.strip (rest w0 t0) l0 (rest w t) w.strip l
    pub behind : trail_behind o.near p first ds t0 ≡ trail_behind o.near p first ds t
    pub fits : FeedFits o.near p first ds t.feed
    pub counted : All WellNumbered (trail_points o.near p first ds t)

  pub stripping_none : (w : Walk) (t : Trail) (l : Lists) → FeedFits o.near p first ds t.feed → All WellNumbered (trail_points o.near p first ds t) → Stripping w t l w t l
  stripping_none w t l f g = record { midway = midway_start; behind = refl; fits = f; counted = g }

  module _ {w0 : Walk} {t0 : Trail} {l0 : Lists} {w : Walk} {t : Trail} {l : Lists} (s : Stripping w0 t0 l0 w t l) where
    module _ (q : Endpoint) (u : Trail) (f : Follows o.near p first ds t (Some q) u) where
      next : rest w t ≡ advanced o w.leg q ++ joints_from false o (next_leg_of o.half_width w.leg q) (trail_points o.near p first ds u)
      next = rw f.points (joints_on o w.leg q (trail_points o.near p first ds u))

      pub turn_counted : WellNumbered q
      turn_counted = counted_here o.near p first ds t q u f s.counted

      pub turn_has : StripFits pass.write w0.strip (rest w0 t0) l0 → StripFits pass.write w.strip (advanced o w.leg q) l
      turn_has h = midway_has (advanced o w.leg q) _ h (rw next at s.midway)

      pub turn : {w1 : Walk} {l1 : Lists} → Walks pass.write (advanced o w.leg q) (next_leg_of o.half_width w.leg q) w l l1 w1 → Stripping w0 t0 l0 w1 u l1
      turn {w1} {l1} e = record {
        midway = rw e.leg (midway_put (advanced o w.leg q) _ (rw next at s.midway) e.puts);
        behind = s.behind ∙ f.behind;
        fits = f.fits;
        counted = counted_on o.near p first ds t q u f s.counted;
      }

    module _ (u : Trail) (f : Follows o.near p first ds t None u) where
      last : rest w t ≡ (end_cap_of o w.leg ∷ []) ++ []
      last = rw f.points (joints_end o w.leg)

      pub end_has : StripFits pass.write w0.strip (rest w0 t0) l0 → StripFits pass.write w.strip (end_cap_of o w.leg ∷ []) l
      end_has h = midway_has (end_cap_of o w.leg ∷ []) [] h (rw last at s.midway)

      pub end : {s1 : Strip} {l1 : Lists} → StripPasses pass.write (end_cap_of o w.leg ∷ []) w.strip l l1 s1
          → Strips pass p first ds t0 (joints_from false o w0.leg (trail_points o.near p first ds t0)) w0.strip l0 l1 (record { strip = s1; feed = u.feed })
      end e = record {
        strip = midway_end (midway_put (end_cap_of o w.leg ∷ []) [] (rw last at s.midway) e);
        leaves = record { behind = sym (s.behind ∙ f.behind); fits = f.fits };
      }

-- ---- all of a dash
joints_of_lem : (o : Stroke) (a b : Endpoint) (qs : List Endpoint) → let leg = first_leg_of o.half_width a b in joints_of false o (a ∷ b ∷ qs) ≡ (start_cap_of o leg ∷ []) ++ joints_from false o leg qs
unfolding joints_of
joints_of_lem o a b qs = refl

module _ (pass : Pass) (a b : Endpoint) (qs : List Endpoint) {leg : Leg} (is : leg ≡ first_leg_of pass.stroke.half_width a b) {base : VertexId} {l0 : Lists}
    (h : StripFits pass.write (start_of base) (joints_of false pass.stroke (a ∷ b ∷ qs)) l0) where
  abbrev stroke : Stroke
  stroke = pass.stroke

  whole : StripFits pass.write (start_of base) ((start_cap_of stroke leg ∷ []) ++ joints_from false stroke leg qs) l0
  whole = rw is (rw (joints_of_lem stroke a b qs) at h)

  pub begin_has : StripFits pass.write (start_of base) (start_cap_of stroke leg ∷ []) l0
  begin_has = has_front (start_cap_of stroke leg ∷ []) (joints_from false stroke leg qs) whole

  module _ {w : Walk} {l1 : Lists} (e : Walks pass.write (start_cap_of stroke leg ∷ []) leg (record { leg = leg; strip = start_of base }) l0 l1 w) where
    pub on_has : StripFits pass.write w.strip (joints_from false stroke w.leg qs) l1
    on_has = rw e.leg (has_back (start_cap_of stroke leg ∷ []) (joints_from false stroke leg qs) whole e.puts)

    pub dash_strips : (p : List Float) (first : ℕ) (ds : List Float) (t : Trail) {l2 : Lists} {r : Stripped} → Strips pass p first ds t (joints_from false stroke w.leg qs) w.strip l1 l2 r
        → Strips pass p first ds t (joints_of false stroke (a ∷ b ∷ qs)) (start_of base) l0 l2 r
    dash_strips p first ds t f = record { strip = rw (joints_of_lem stroke a b qs, ← is) (puts_both e.puts (rw e.leg at f.strip)); leaves = f.leaves }
