-- W-213: what cutting a run by f32 keeps. The points of its dashes are points like any other, so that "W-207's statement covers them too" and what is
-- said of every accepted point is said of them. `Stays`, `CutsStay` and `Wears` are these sentences; that they hold is proofs/. Assumes nothing.
use Rattle.std.specs.Prelude.{◌≤◌, ◌<◌, ◌≡◌, Bool, true, false, List, Float, length}
use Rattle.std.specs.Float.Ieee.{le}
use Rattle.endpoint.specs.declared.Endpoint.{Endpoint}
use Rattle.lists.specs.All.{All}
use Rattle.path.specs.Coordinates.{coordinate_in}
use Rattle.path.specs.Limits.{verb_limit}
use Rattle.path.specs.Runs.{Run}
use Rattle.dashes.specs.Pattern.{pattern_in, length_at, worn_of}
use Rattle.dashes.specs.Dashes.{dashes_of}
use Rattle.cuts.specs.Runs.{cut_runs}

-- "Coordinates are finite, -32,768 to 32,768"
pub record Inside (p : Endpoint) : Type 0 where
  pub x : coordinate_in p.position.x ≡ true
  pub y : coordinate_in p.position.y ≡ true

-- every point of every dash of a run of accepted points, by any accepted pattern, is an accepted point
abbrev pub Stays : Type 0
Stays = (ds : List Float) (o : Float) → pattern_in ds o ≡ true → 0 < length ds
    → (closed : Bool) (ps : List Endpoint) → length ps ≤ verb_limit → All Inside ps → All (All Inside) (dashes_of closed ds o ps)

-- a run of accepted points, and one with fewer points than verbs are accepted: its end is a verb too
abbrev pub RunIn : Run Endpoint → Type 0
RunIn r = All Inside r.points

abbrev pub Fewer : Run Endpoint → Type 0
Fewer r = length r.points < verb_limit

-- so the cut runs of such runs have accepted points, with dashes or without
abbrev pub CutsStay : Type 0
CutsStay = (limit : Float) (ds : List Float) (o : Float) → pattern_in ds o ≡ true → (rs : List (Run Endpoint)) → All Fewer rs → All RunIn rs → All RunIn (cut_runs limit ds o rs)

-- no length that could still be taken off is left when an accepted offset is worn down
abbrev pub Wears : Type 0
Wears = (ds : List Float) (o : Float) → pattern_in ds o ≡ true → 0 < length ds → let w = worn_of ds o in le (length_at ds w.index) w.rest ≡ false
