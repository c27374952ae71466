-- At the first dash of a run: the dashes that are to come are the run's. Assumes nothing.
use Prim.Native.Nat.{ℕ, ◌≤◌, ◌<◌}
use mathlib.Core.Path.{◌≡◌, refl}
use mathlib.Core.Bool.{Bool, true, false}
use mathlib.Core.List.{List}
use native.Mathlib.Omega.{arith}
use lib.Ieee.{Float}
use Rattle.std.specs.Prelude.{Option, Some}
use lib.ListN.{length}
use Rattle.endpoint.specs.declared.Endpoint.{Endpoint}
use Rattle.kept.specs.Looks.{run_from}
use Rattle.kept.specs.Points.{endpoint_at}
use Rattle.along.specs.Strips.{Within}
use Rattle.dashes.specs.Pattern.{Dash, worn_of, first_cut}
use Rattle.dashes.specs.Marks.{cut_limit}
use Rattle.dashes.specs.Dashes.{dashes_of}
use Rattle.dashes.specs.declared.pattern.Beat.{Beat}
use Rattle.cuts.proofs.Passing.{first_index}
use Rattle.feed.specs.Feed.{first_feed, comes, FeedFits}
use Rattle.feed.specs.Trail.{Begins}
use Rattle.feed.specs.declared.Feed.{Feed}
use Rattle.feed.specs.declared.trail.Trail.{Trail}
use Rattle.feed.proofs.Feeding.{start_comes, start_fits}
use Rattle.dashed.specs.Dashed.{run_cuts}
use Rattle.dashed.specs.Passes.{Starts}

module _ (limit : Float) (p : List Float) (first i : ℕ) (closed : Bool) (ds : List Float) (offset : Float) (w : Within p first i) (some : 0 < length ds)
    (few : run_cuts closed ds offset (run_from limit p first i) ≤ cut_limit) {b : Beat} (eb : b ≡ first_cut ds (worn_of ds offset)) {f : Feed} (ef : f ≡ first_feed p first i closed b)
    {on : Bool} (d : Dash b.index on) where
  -- the first cut of the pattern
  abbrev cut : Beat
  cut = first_cut ds (worn_of ds offset)

  pub feed_fits : FeedFits limit p first ds (Some f)
  feed_fits = rw (ef, eb) (start_fits limit p first i closed ds cut some w.point w.few (first_index ds offset) few)

  marks : comes limit p first ds (Some f) ≡ comes limit p first ds (Some (first_feed p first i closed cut))
  marks = rw (ef, eb)

  pub starts_on : on ≡ true → {a : Endpoint} → a ≡ endpoint_at p first 0 → Starts limit p first i closed ds offset (Some (record { last = a; on = true; feed = Some f }))
  unfolding dashes_of
  starts_on t ea = record {
    dashes = rw (← eb, ← d.of ds some, t, marks, start_comes limit p first i closed ds cut, ea, eb);
    fits = record { on = refl; fits = record { last = rw ea (omega (arith, w.few, w.point)); feed = feed_fits } };
  }

  pub starts_off : on ≡ false → (r : Option Trail) → Begins limit p first ds (Some f) r → Starts limit p first i closed ds offset r
  unfolding dashes_of
  starts_off t r g = record { dashes = rw (← eb, ← d.of ds some, t) (rw (marks, start_comes limit p first i closed ds cut, ← eb) at g.dashes); fits = g.fits }
