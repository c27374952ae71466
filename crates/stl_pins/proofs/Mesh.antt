-- Whatever the mesh call writes: where it is accepted as STL, it reads back. Assumes nothing.
use Prim.Native.Nat.{ℕ, ◌*◌, ◌≤◌}
use mathlib.Core.Path.{◌≡◌, sym, subst}
use mathlib.Core.List.{List}
use lib.Ieee.{Float}
use lib.ListN.{length}
use Rattle.refusals.specs.Numbers.{number_of, accepted}
use Rattle.options.specs.declared.Options.{Options}
use Rattle.options.specs.declared.Stroke.{Stroke}
use Rattle.pieces.specs.Piece.{Lists, flat_v}
use Rattle.runs.specs.Runs.{path_runs, mesh_vertices, mesh_count, mesh_triangles}
use Rattle.mesh.specs.Demand3.{EarnsNone}
use Rattle.mesh.specs.Mesh.{outcome_of}
use Rattle.mesh.proofs.Demand3.{demand_3}
use Rattle.stl.specs.Back.{PlacesHeld, Returns}
use Rattle.stl.specs.Write.{write_of}
use Rattle.stl.proofs.Back.{places_return}
use Rattle.stl_pins.specs.Mesh.{mesh_floats, mesh_numbers}
use Rattle.stl_pins.proofs.Places.{places_held, mesh_held}

-- a path that earns none of refusals 1 to 4, in lists with room
module _ (verbs : List ℕ) (coords : List Float) (options : Options) (ds : List Float) (o : Stroke) (e : EarnsNone verbs coords options ds o) (l : Lists)
    (h : 5 * mesh_count o (path_runs o ds verbs coords) ≤ length l.vertices) (k : mesh_count o (path_runs o ds verbs coords) ≤ length l.sources) (g : 3 * length (mesh_triangles o 0 (path_runs o ds verbs coords)) ≤ length l.triangles)
  where
    floats_are : mesh_floats (outcome_of verbs coords options ds l) ≡ flat_v (mesh_vertices o (path_runs o ds verbs coords))
    floats_are = let w = (demand_3 verbs coords options ds o e l).rooms.enough h k g in rw w.answer w.vertices

    pub mesh_returns : (b : List ℕ) → let out = outcome_of verbs coords options ds l in
        (write_of (mesh_floats out) (mesh_numbers out) b).answer.number ≡ number_of accepted → Returns (mesh_floats out) (mesh_numbers out) b
    mesh_returns b =
        let out = outcome_of verbs coords options ds l in
        let held = places_held (mesh_vertices o (path_runs o ds verbs coords)) (mesh_held o (path_runs o ds verbs coords)) in
        places_return (mesh_floats out) (mesh_numbers out) b (subst PlacesHeld (sym floats_are) held)
