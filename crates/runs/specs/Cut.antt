-- Where a run's kept points end and its second stands, if it is cut. Assumes nothing.
use Rattle.std.specs.Prelude.{ℕ, ◌≤◌, ◌≡◌, Bool, false, List, Float, length, take, Option, is_some, IfSome}
use Rattle.kept.specs.Kept.{kept_points}
use Rattle.kept.specs.Points.{endpoints_of}
use Rattle.kept.specs.Held.{run_of}
use Rattle.kept.specs.declared.points.Kept.{Kept}
use Rattle.cuts.specs.Runs.{is_cut}

-- the run whose coordinates are p
module _ (limit : Float) (p : List Float) (first : ℕ) (closed : Bool) where
  -- the coordinates up to `to` have its kept points, of which none is dropped on closing
  pub record KeptTo (to : ℕ) : Type 0 where
    pub least : 2 ≤ to
    pub end : to ≤ length p
    pub kept : kept_points limit closed (endpoints_of first p) ≡ kept_points limit false (endpoints_of first (take to p))

  -- it is cut: these are its kept points
  abbrev pub Cut : Kept → Type 0
  Cut k = kept_points limit closed (endpoints_of first p) ≡ run_of limit k

  pub record Seconds (ds : List Float) (s : Option Kept) : Type 0 where
    pub cut : is_some s ≡ is_cut ds (kept_points limit closed (endpoints_of first p))
    pub here : IfSome s Cut
