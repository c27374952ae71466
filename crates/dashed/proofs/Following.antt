-- A dash point by point: what a look for the next point leaves to come; and that its points are numbered. Assumes nothing.
use Prim.Native.Nat.{ℕ, ◌<◌}
use mathlib.Core.List.{List, [], ◌∷◌}
use native.Mathlib.Omega.{arith}
use lib.Ieee.{Float}
use lib.ListN.{length}
use Rattle.endpoint.specs.declared.Endpoint.{Endpoint}
use Rattle.lists.specs.All.{All}
use Rattle.kept.proofs.Numbered.{Numbered}
use Rattle.std.specs.Prelude.{Some}
use Rattle.feed.specs.Feed.{WellNumbered}
use Rattle.feed.specs.Trail.{trail_points, Follows}
use Rattle.feed.specs.declared.trail.Trail.{Trail}
use Rattle.dashed.specs.Passes.{dash_kept, DashFits}
use Rattle.dashed.specs.declared.Dash.{Dash}

counted_numbered : (qs : List Endpoint) → All WellNumbered qs → All Numbered qs
counted_numbered [] g = tt
counted_numbered (q ∷ qs) g = (omega (arith, g.0), counted_numbered qs g.1)

pub fits_numbered : {limit : Float} {p : List Float} {first : ℕ} {ds : List Float} {d : Dash} → DashFits limit p first ds d → All Numbered (dash_kept limit p first ds d)
fits_numbered {limit} {p} {first} {ds} {d} f = counted_numbered (dash_kept limit p first ds d) f.numbered

module _ (limit : Float) (p : List Float) (first : ℕ) (ds : List Float) (t : Trail) where
  module _ (q : Endpoint) (u : Trail) (e : Follows limit p first ds t (Some q) u) where
    pub counted_here : All WellNumbered (trail_points limit p first ds t) → WellNumbered q
    counted_here g = (rw e.points at g).0

    pub counted_on : All WellNumbered (trail_points limit p first ds t) → All WellNumbered (trail_points limit p first ds u)
    counted_on g = (rw e.points at g).1

    pub fewer_on : length (trail_points limit p first ds u) < length (trail_points limit p first ds t)
    fewer_on = rw e.points (omega arith)
