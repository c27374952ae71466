-- Every vertex that is woven into a round run lies where a hub's centre and a direction's multiple are added, so what holds of all such vertices holds of it. Assumes nothing.
use Prim.Native.Nat.{ℕ, ◌+◌}
use mathlib.Core.Bool.{Bool, true, false, ◌&&◌}
use mathlib.Core.List.{List, [], ◌∷◌, ◌++◌, map}
use lib.ListN.{length}
use Rattle.plane.specs.declared.vector.Point.{Point}
use Rattle.endpoint.specs.declared.Endpoint.{Endpoint}
use Rattle.endpoint.specs.declared.EndpointData.{EndpointData}
use Rattle.endpoint.specs.declared.Side.{Side}
use Rattle.endpoint.specs.declared.Side.TheVariants.{Positive, Negative}
use Rattle.endpoint.specs.declared.VertexId.{VertexId}
use Rattle.lists.specs.All.{All}
use Rattle.lists.proofs.All.{all_append}
use Rattle.triangles.specs.Tri.{Tri}
use Rattle.pieces.specs.Piece.{Vertex, Piece}
use Rattle.options.specs.declared.Stroke.{Stroke}
use Rattle.strip.specs.Section.{before_of, after_of}
use Rattle.strip.specs.Strip.{next_of, start_of, step_of, steps_of}
use Rattle.strip.specs.Triangle.{between}
use Rattle.strip.specs.declared.Strip.{Strip}
use Rattle.arc.specs.Arc.{arc_vertex_of, arc_vertices, arc_normals}
use Rattle.arc.specs.declared.Hub.{Hub}
use Rattle.fans.specs.Fans.{gets_arc, side_arc, side_weft, start_fan, end_fan}
use Rattle.fans.specs.Weft.{faces, given, then}
use Rattle.fans.specs.declared.Round.{Round}
use Rattle.bends.specs.Bend.{edge_faces, due_weft, arcs_weft, end_weft, bend_weft}
use Rattle.bends.specs.Weave.{joints_in, woven_from}
use Rattle.bends.specs.declared.Bend.{Bend}
use Rattle.weave.specs.Points.{bends_of}
use Rattle.woven.specs.Woven.{way_round, woven_of}

module _ (P : Vertex → Type 0) (each : (hub : Hub) (m : Point) → P (arc_vertex_of hub m)) where
  -- a piece all of whose vertices have it, wherever its numbers begin
  abbrev Has : (ℕ → Piece) → Type 0
  Has f = (i : ℕ) → All P (f i).vertices

  has_then : (f g : ℕ → Piece) → Has f → Has g → Has (then f g)
  unfolding then
  has_then f g a b i = all_append P (f i).vertices (g (i + length (f i).vertices)).vertices (a i) (b (i + length (f i).vertices))

  has_given : (test : Bool) (f : ℕ → Piece) → Has f → Has (given test f)
  has_given true f a i = a i
  has_given false f a i = tt

  has_faces : (ts : List Tri) → Has (faces ts)
  has_faces ts i = tt

  -- ---- an arc, a fan
  mapped : (hub : Hub) (ms : List Point) → All P (map (arc_vertex_of hub) ms)
  mapped hub [] = tt
  mapped hub (m ∷ ms) = (each hub m, mapped hub ms)

  has_arc : (k : ℕ) (hub : Hub) (a b : Point) → All P (arc_vertices k hub a b)
  unfolding arc_vertices
  has_arc k hub a b = mapped hub (arc_normals k hub.ahead a b)

  has_cap : (k : ℕ) (hub near : Hub) (a b m : Point) → All P (arc_vertex_of hub m ∷ (arc_vertices k near a m ++ arc_vertices k hub m b))
  has_cap k hub near a b m = (each hub m, all_append P (arc_vertices k near a m) (arc_vertices k hub m b) (has_arc k near a m) (has_arc k hub m b))

  -- ---- about a joint
  has_side : (r : Round) (e : EndpointData) (side : Side) (first : VertexId) (ahead : Point) → Has (side_weft r e side first ahead)
  unfolding side_weft
  has_side r e side first ahead = has_given (gets_arc r.joins e side) (side_arc r.detail e side first ahead) (λ i. has_arc _ _ _ _)

  has_start : (k : ℕ) (e : EndpointData) (n p : VertexId) (outward : Point) → Has (start_fan k e n p outward)
  unfolding start_fan
  has_start k e n p outward i = has_cap k _ _ _ _ _

  has_end : (k : ℕ) (e : EndpointData) (n p : VertexId) (outward : Point) → Has (end_fan k e n p outward)
  unfolding end_fan
  has_end k e n p outward i = has_cap k _ _ _ _ _

  has_bend : (o : Stroke) (r : Round) (s : Strip) (due : Bool) (b : Bend) → Has (bend_weft o r s due b)
  unfolding bend_weft due_weft arcs_weft end_weft
  has_bend o r s due b =
      let before = before_of (next_of s) b.joint in
      let after = after_of (next_of s) b.joint in
      has_then _ _ (has_faces (edge_faces s before)) (has_then _ _ (has_given due _ (has_start _ _ _ _ _))
      (has_then _ _ (has_faces (between before after)) (has_then _ _ (has_then _ _ (has_side r b.joint Positive _ _) (has_side r b.joint Negative _ _)) (has_given (b.end && r.caps) _ (has_end _ _ _ _ _)))))

  -- ---- a run
  has_from : (o : Stroke) (r : Round) (s : Strip) (due : Bool) (bs : List Bend) → Has (woven_from o r s due bs)
  unfolding woven_from
  has_from o r s due [] = λ i. tt
  has_from o r s due (b ∷ bs) = has_then _ _ (has_bend o r s due b) (has_from o r (step_of s b.joint) false bs)

  pub has_woven : (closed : Bool) (o : Stroke) (r : Round) (base : VertexId) (ks : List Endpoint) → Has (woven_of closed o r base ks)
  unfolding woven_of
  has_woven closed o r base [] = λ i. tt
  has_woven closed o r base (p ∷ []) = λ i. tt
  has_woven false o r base (p ∷ q ∷ ks) = has_from o r _ r.caps _
  has_woven true o r base (p ∷ q ∷ ks) = has_then _ _ (has_from o r _ false _) (has_faces (way_round (steps_of (start_of base) (joints_in (bends_of true o (p ∷ q ∷ ks))))))
