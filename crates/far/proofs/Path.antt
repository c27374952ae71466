-- An accepted path with accepted options has no short edge, dashed or not. Each point of each run is inside the limits, and so is each point of its cut
-- runs (stays); so none of these has a short leg, and the edges that are drawn are theirs. Assumes nothing.
use mathlib.Core.Path.{◌≡◌}
use Prim.Native.Nat.{ℕ, zero, suc, ◌+◌, ◌≤◌, ◌<◌}
use mathlib.Core.Bool.{Bool, true, false}
use mathlib.Core.List.{List, [], ◌∷◌}
use native.Mathlib.Omega.{arith}
use lib.Dec.{eqb}
use lib.Ieee.{Float, nan}
use lib.ListN.{length, take, drop, get_or}
use Rattle.plane.specs.Normal.{pick}
use Rattle.endpoint.specs.declared.Endpoint.{Endpoint}
use Rattle.path.specs.Verbs.{end_closed, names}
use Rattle.path.specs.Coordinates.{coordinate_in}
use Rattle.path.specs.Limits.{verb_limit}
use Rattle.path.specs.Path.{Sound}
use Rattle.options.specs.Options.{accepting, stroke_of}
use Rattle.path.specs.Runs.{Run, runs_from}
use Rattle.options.specs.declared.Options.{Options}
use Rattle.options.specs.declared.Stroke.{Stroke}
use Rattle.path.proofs.Laws.{within_at}
use Rattle.kept.specs.Points.{endpoints_of}
use Rattle.kept.specs.Kept.{kept_points}
use Rattle.lists.specs.All.{All}
use Rattle.lists.proofs.All.{all_append, all_take, all_drop}
use Rattle.runs.specs.Runs.{runs_of, path_runs}
use Rattle.stays.specs.Stays.{Inside, RunIn, Fewer}
use Rattle.stays.proofs.Runs.{cut_runs_inside}
use Rattle.rounding.proofs.Results.{Within}
use Rattle.far.specs.Short.{so_near, NotShort, legs_of, mesh_edges}
use Rattle.far.proofs.Ranges.{Limit, accepted, half_width_lem, near_limit}
use Rattle.far.proofs.Apart.{so_near_reached}
use Rattle.far.proofs.Course.{run_none}

-- ---- the points of a path
points_in_lem : (first : ℕ) (cs : List Float) → ((i : ℕ) → i < length cs → coordinate_in (get_or cs i nan) ≡ true) → All Inside (endpoints_of first cs)
unfolding endpoints_of
points_in_lem first [] f = tt
points_in_lem first (x ∷ []) f = tt
points_in_lem first (x ∷ y ∷ cs) f =
    (record { x = f 0 (omega arith); y = f 1 (omega arith) }, points_in_lem (first + 1) cs (λ i h. f (suc (suc i)) (omega arith)))

-- ---- its runs
runs_in : (n : ℕ) (vs : List ℕ) (ps : List Endpoint) → All Inside ps → All RunIn (runs_from n vs ps)
unfolding runs_from
runs_in n [] ps i = tt
runs_in n (v ∷ vs) ps i = go (names v) (runs_in (n + 1) vs ps i) (runs_in 0 vs (drop n ps) (all_drop Inside n ps i))
  where
    go : (t : Bool) → All RunIn (runs_from (n + 1) vs ps) → All RunIn (runs_from 0 vs (drop n ps))
        → All RunIn (pick t (runs_from (n + 1) vs ps) (record { closed = eqb v end_closed; points = take n ps } ∷ runs_from 0 vs (drop n ps)))
    go true a b = a
    go false a b = (all_take Inside n ps i, b)

path_in : (verbs : List ℕ) (coords : List Float) → Sound verbs coords → All RunIn (runs_of verbs coords)
path_in verbs coords s = runs_in 0 verbs (endpoints_of 0 coords) (points_in_lem 0 coords (within_at coords s.within))

-- a run ends with a verb that names no point
take_few : (n : ℕ) (ps : List Endpoint) → length (take n ps) ≤ n
take_few zero ps = omega arith
take_few (suc n) [] = omega arith
take_few (suc n) (p ∷ ps) = omega (arith, take_few n ps)

runs_few : (n : ℕ) (vs : List ℕ) (ps : List Endpoint) → n + length vs ≤ verb_limit → All Fewer (runs_from n vs ps)
unfolding runs_from
runs_few n [] ps h = tt
runs_few n (v ∷ vs) ps h = go (names v) (runs_few (n + 1) vs ps (omega arith)) (runs_few 0 vs (drop n ps) (omega arith))
  where
    go : (t : Bool) → All Fewer (runs_from (n + 1) vs ps) → All Fewer (runs_from 0 vs (drop n ps))
        → All Fewer (pick t (runs_from (n + 1) vs ps) (record { closed = eqb v end_closed; points = take n ps } ∷ runs_from 0 vs (drop n ps)))
    go true a b = a
    go false a b = (omega (arith, take_few n ps), b)

pub path_few : (verbs : List ℕ) (coords : List Float) → Sound verbs coords → All Fewer (runs_of verbs coords)
path_few verbs coords s = runs_few 0 verbs (endpoints_of 0 coords) (omega (arith, s.few))

-- ---- its cut runs
pub drawn_in : (options : Options) (ds : List Float) (o : Stroke) (verbs : List ℕ) (coords : List Float) → stroke_of options ds ≡ accepting o → Sound verbs coords
    → All RunIn (path_runs o ds verbs coords)
drawn_in options ds o verbs coords e s = cut_runs_inside o.near ds o.offset (accepted options ds o e).pattern (runs_of verbs coords) (path_few verbs coords s) (path_in verbs coords s)

-- ---- their edges
edges_none : (o : Stroke) → Limit o.near → Within 8192 o.half_width → (rs : List (Run Endpoint)) → All RunIn rs → All (NotShort so_near) (mesh_edges o rs)
unfolding mesh_edges
edges_none o l h [] i = tt
edges_none o l h (r ∷ rs) i =
    all_append (NotShort so_near) (legs_of r.closed o.half_width (kept_points o.near r.closed r.points)) (mesh_edges o rs)
    (run_none o.near o.half_width l h so_near so_near_reached r.closed r.points i.0) (edges_none o l h rs i.1)

pub no_short : (options : Options) (ds : List Float) (o : Stroke) (verbs : List ℕ) (coords : List Float) → stroke_of options ds ≡ accepting o → Sound verbs coords
    → All (NotShort so_near) (mesh_edges o (path_runs o ds verbs coords))
no_short options ds o verbs coords e s = edges_none o (near_limit options ds o e) (half_width_lem options ds o e) (path_runs o ds verbs coords) (drawn_in options ds o verbs coords e s)
