-- Each triangle of a mesh names vertices of that mesh, whatever number its first has. Assumes nothing.
use Prim.Native.Nat.{ℕ, ◌+◌, ◌≤◌}
use mathlib.Core.List.{List, [], ◌∷◌}
use native.Mathlib.Omega.{arith}
use Rattle.endpoint.specs.declared.Endpoint.{Endpoint}
use Rattle.options.specs.declared.Stroke.{Stroke}
use Rattle.path.specs.Runs.{Run}
use Rattle.run.specs.Run.{shape_count, shape_triangles}
use Rattle.run.proofs.Facts.{run_covers}
use Rattle.runs.specs.Runs.{drawn_of, mesh_count, mesh_triangles}
use Rattle.triangles.specs.Facts.{AllOwn}
use Rattle.triangles.specs.Tri.{Tri}
use Rattle.triangles.proofs.Having.{own_append}

own_wider : (lo hi a b : ℕ) → a ≤ lo → hi ≤ b → (ts : List Tri) → AllOwn lo hi ts → AllOwn a b ts
own_wider lo hi a b h g [] o = tt
own_wider lo hi a b h g (t ∷ ts) o =
    let p = o.0 in
    (record { ab = p.ab; bc = p.bc; ac = p.ac; in_a = omega (arith, p.in_a); in_b = omega (arith, p.in_b); in_c = omega (arith, p.in_c) }, own_wider lo hi a b h g ts o.1)

pub all_own : (o : Stroke) (base : ℕ) (rs : List (Run Endpoint)) → AllOwn base (base + mesh_count o rs) (mesh_triangles o base rs)
unfolding mesh_count mesh_triangles
all_own o base [] = tt
all_own o base (r ∷ rs) =
    let n = shape_count (drawn_of o r) in
    let m = base + (n + mesh_count o rs) in
    let xs = shape_triangles r.closed base (drawn_of o r) in
    let ys = mesh_triangles o (base + n) rs in
    own_append base m xs ys (own_wider base (base + n) base m (omega arith) (omega arith) xs (run_covers o r.closed base r.points).own)
    (own_wider (base + n) (base + n + mesh_count o rs) base m (omega arith) (omega arith) ys (all_own o (base + n) rs))
