-- The places that a mesh's vertices have are sums of f32, so f32 values. Assumes nothing.
use Prim.Native.Nat.{ℕ, zero, suc, ◌+◌, ◌*◌}
use mathlib.Core.Path.{◌≡◌, sym, subst}
use mathlib.Core.List.{List, [], ◌∷◌, ◌++◌}
use native.Mathlib.Omega.{arith}
use lib.Dec.{T}
use lib.Ieee.{Float, nan, binary32, fits}
use lib.Ieee.Fits.{add-fits, nan-fits}
use lib.ListN.{get_or}
use Rattle.lists.specs.All.{All}
use Rattle.lists.specs.Over.{flat}
use Rattle.lists.proofs.All.{all_append}
use Rattle.plane.specs.F32.{f32}
use Rattle.plane.specs.Vector.{plus_of}
use Rattle.plane.specs.declared.vector.Point.{Point}
use Rattle.endpoint.specs.declared.Endpoint.{Endpoint}
use Rattle.endpoint.specs.declared.EndpointData.{EndpointData}
use Rattle.endpoint.specs.declared.Side.{Side}
use Rattle.endpoint.specs.declared.Side.TheVariants.{Positive, Negative}
use Rattle.endpoint.specs.declared.SidePoints.{SidePoints}
use Rattle.endpoint.specs.declared.SidePoints.TheVariants.{Single, Pair}
use Rattle.pieces.specs.Piece.{Vertex, flat_v}
use Rattle.path.specs.Runs.{Run}
use Rattle.options.specs.Options.{level_of}
use Rattle.options.specs.declared.Stroke.{Stroke}
use Rattle.vertices.specs.Base.{base_vertex_of, side_vertices_of, base_vertices_of}
use Rattle.vertices.specs.Cap.{cap_vertex_of, cap_pair_of, cap_vertices_of}
use Rattle.vertices.specs.Vertex.{vertex_of}
use Rattle.strip.specs.Joint.{joint_vertices_of, vertices_of}
use Rattle.joints.specs.Joint.{joints_of}
use Rattle.arc.specs.Arc.{arc_vertex_of}
use Rattle.arc.specs.declared.Hub.{Hub}
use Rattle.round_cap.proofs.Rim.{Rim, cap_rim}
use Rattle.run.specs.Run.{Shape, nothing, empty_cap, along, round_cap, round_along, round_of, cap_piece, zeroth, shape_vertices}
use Rattle.runs.specs.Runs.{drawn_of, mesh_vertices}
use Rattle.stl.specs.Back.{PlacesHeld}
use Rattle.stl_pins.proofs.Arcs.{has_woven}

abbrev PlaceHeld : Vertex → Type 0
PlaceHeld v = T (fits binary32 v.x) × T (fits binary32 v.y)

abbrev AllHeld : List Vertex → Type 0
AllHeld = All PlaceHeld

append_held : (vs ws : List Vertex) → AllHeld vs → AllHeld ws → AllHeld (vs ++ ws)
append_held = all_append PlaceHeld

-- in the list of floats, five to a vertex
pub places_held : (vs : List Vertex) → AllHeld vs → PlacesHeld (flat_v vs)
unfolding flat
places_held [] h i = (nan-fits binary32, nan-fits binary32)
places_held (v ∷ vs) (p, h) zero = p
places_held (v ∷ vs) (p, h) (suc i) =
    let e : 5 * suc i ≡ suc (suc (suc (suc (suc (5 * i))))) = omega arith in
    let f : 5 * suc i + 1 ≡ suc (suc (suc (suc (suc (5 * i + 1))))) = omega arith in
    let r = places_held vs h i in
    (subst (λ (n : ℕ). T (fits binary32 (get_or (flat_v (v ∷ vs)) n nan))) (sym e) r.0, subst (λ (n : ℕ). T (fits binary32 (get_or (flat_v (v ∷ vs)) n nan))) (sym f) r.1)

-- ---- rule 8, and the empty cap
base_held : (e : EndpointData) (side : Side) (x y : Float) → PlaceHeld (base_vertex_of e side x y)
unfolding base_vertex_of vertex_of plus_of
base_held e side x y = (add-fits binary32 _ _, add-fits binary32 _ _)

side_held : (e : EndpointData) (side : Side) (s : SidePoints) → AllHeld (side_vertices_of e side s)
unfolding side_vertices_of
side_held e side (Single x y) = (base_held e side x y, tt)
side_held e side (Pair x0 y0 x1 y1) = (base_held e side x0 y0, (base_held e side x1 y1, tt))

joints_held : (js : List EndpointData) → AllHeld (vertices_of js)
unfolding vertices_of joint_vertices_of
joints_held [] = tt
joints_held (j ∷ js) =
    append_held (base_vertices_of j Positive ++ base_vertices_of j Negative) (vertices_of js)
    (append_held (base_vertices_of j Positive) (base_vertices_of j Negative) (side_held j Positive j.positive) (side_held j Negative j.negative)) (joints_held js)

cap_held : (e : Endpoint) (h a : Float) (side : Side) (x y : Float) → PlaceHeld (cap_vertex_of e h a side x y)
unfolding cap_vertex_of vertex_of plus_of
cap_held e h a side x y = (add-fits binary32 _ _, add-fits binary32 _ _)

caps_held : (e : Endpoint) (h a : Float) → AllHeld (cap_vertices_of e h a)
unfolding cap_vertices_of cap_pair_of
caps_held e h a = (cap_held e h a _ _ _, (cap_held e h a _ _ _, (cap_held e h a _ _ _, (cap_held e h a _ _ _, tt))))

-- ---- arcs, and the round empty cap
arc_held : (hub : Hub) (m : Point) → PlaceHeld (arc_vertex_of hub m)
unfolding arc_vertex_of vertex_of plus_of
arc_held hub m = (add-fits binary32 _ _, add-fits binary32 _ _)

rim_held : (p : Endpoint) (h : Float) (v : Vertex) → Rim p h v → PlaceHeld v
unfolding vertex_of plus_of
rim_held p h v r = rw r.is (add-fits binary32 _ _, add-fits binary32 _ _)

rims_held : (p : Endpoint) (h : Float) (vs : List Vertex) → All (Rim p h) vs → AllHeld vs
rims_held p h [] a = tt
rims_held p h (v ∷ vs) a = (rim_held p h v a.0, rims_held p h vs a.1)

-- ---- runs
shape_held : (o : Stroke) (s : Shape) → AllHeld (shape_vertices o s)
unfolding shape_vertices
shape_held o nothing = tt
shape_held o (empty_cap p) = caps_held p o.half_width (f32 0)
shape_held o (along js) = joints_held js
shape_held o (round_cap s p) = rims_held p s.half_width (cap_piece s zeroth p).vertices (cap_rim p s.half_width (level_of s) zeroth)
shape_held o (round_along closed s p q ks) =
    append_held (vertices_of (joints_of closed s (p ∷ q ∷ ks))) _ (joints_held (joints_of closed s (p ∷ q ∷ ks))) (has_woven PlaceHeld arc_held closed s (round_of s) zeroth (p ∷ q ∷ ks) _)

pub mesh_held : (o : Stroke) (rs : List (Run Endpoint)) → AllHeld (mesh_vertices o rs)
unfolding mesh_vertices
mesh_held o [] = tt
mesh_held o (r ∷ rs) = append_held (shape_vertices o (drawn_of o r)) (mesh_vertices o rs) (shape_held o (drawn_of o r)) (mesh_held o rs)
