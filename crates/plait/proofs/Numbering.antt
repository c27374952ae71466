-- Where a round run's numbers begin plays no part in its vertices. Assumes nothing.
use Prim.Native.Nat.{ℕ, ◌+◌}
use mathlib.Core.Path.{◌≡◌, refl, ap}
use mathlib.Core.Bool.{Bool, true, false, ◌&&◌}
use mathlib.Core.List.{List, [], ◌∷◌, ◌++◌}
use lib.ListN.{length}
use Rattle.plane.specs.declared.vector.Point.{Point}
use Rattle.endpoint.specs.declared.Endpoint.{Endpoint}
use Rattle.endpoint.specs.declared.EndpointData.{EndpointData}
use Rattle.endpoint.specs.declared.Side.{Side}
use Rattle.endpoint.specs.declared.Side.TheVariants.{Positive, Negative}
use Rattle.endpoint.specs.declared.VertexId.{VertexId}
use Rattle.pieces.specs.Piece.{Vertex, Piece}
use Rattle.triangles.specs.Tri.{Tri}
use Rattle.options.specs.declared.Stroke.{Stroke}
use Rattle.joints.specs.Joint.{joints_of}
use Rattle.strip.specs.Joint.{vertex_count, vertices_of}
use Rattle.strip.specs.Strip.{step_of}
use Rattle.strip.specs.declared.Strip.{Strip}
use Rattle.strip.specs.declared.section.Section.{Section}
use Rattle.fans.specs.Fans.{gets_arc, side_weft, start_fan, end_fan}
use Rattle.fans.specs.Weft.{faces, given, then}
use Rattle.fans.specs.declared.Round.{Round}
use Rattle.bends.specs.Bend.{due_weft, arcs_weft, end_weft, bend_weft}
use Rattle.bends.specs.Weave.{woven_from}
use Rattle.bends.specs.declared.Bend.{Bend}
use Rattle.weave.specs.Points.{bends_of}
use Rattle.woven.specs.Woven.{woven_of, round_piece}

-- two wefts write the same vertices, wherever each begins
record Same (f g : ℕ → Piece) : Type 0 where
  vertices : (i j : ℕ) → (f i).vertices ≡ (g j).vertices

given_same : (test : Bool) {f g : ℕ → Piece} → Same f g → Same (given test f) (given test g)
given_same true h = h
given_same false h = record { vertices = λ i j. refl }

then_same : {f g f' g' : ℕ → Piece} → Same f f' → Same g g' → Same (then f g) (then f' g')
unfolding then
then_same {f} {g} {f'} {g'} x y = record { vertices = λ i j. rw (y.vertices (i + length (f i).vertices) (j + length (f' j).vertices), x.vertices i j) }

faces_same : (ts us : List Tri) → Same (faces ts) (faces us)
faces_same ts us = record { vertices = λ i j. refl }

module _ (o : Stroke) (r : Round) where
  due_same : (s t : Strip) (due : Bool) (b : Bend) → Same (due_weft o r due s b.leg) (due_weft o r due t b.leg)
  unfolding due_weft start_fan
  due_same s t due b = given_same due (record { vertices = λ i j. refl })

  side_same : (e : EndpointData) (side : Side) (x y : VertexId) (ahead : Point) → Same (side_weft r e side x ahead) (side_weft r e side y ahead)
  unfolding side_weft
  side_same e side x y ahead = given_same (gets_arc r.joins e side) (record { vertices = λ i j. refl })

  end_same : (s t : Section) (b : Bend) → Same (end_weft r b s) (end_weft r b t)
  unfolding end_weft end_fan
  end_same s t b = given_same (b.end && r.caps) (record { vertices = λ i j. refl })

  bend_same : (s t : Strip) (due : Bool) (b : Bend) → Same (bend_weft o r s due b) (bend_weft o r t due b)
  unfolding bend_weft arcs_weft
  bend_same s t due b =
      then_same (faces_same _ _)
      (then_same (due_same s t due b) (then_same (faces_same _ _) (then_same (then_same (side_same b.joint Positive _ _ b.leg.edge.t) (side_same b.joint Negative _ _ b.leg.edge.t)) (end_same _ _ b))))

  woven_same : (s t : Strip) (due : Bool) (bs : List Bend) → Same (woven_from o r s due bs) (woven_from o r t due bs)
  unfolding woven_from
  woven_same s t due [] = record { vertices = λ i j. refl }
  woven_same s t due (b ∷ bs) = then_same (bend_same s t due b) (woven_same (step_of s b.joint) (step_of t b.joint) false bs)

  run_same : (closed : Bool) (b b' : VertexId) (ps : List Endpoint) → Same (woven_of closed o r b ps) (woven_of closed o r b' ps)
  unfolding woven_of
  run_same closed b b' [] = record { vertices = λ i j. refl }
  run_same closed b b' (p0 ∷ []) = record { vertices = λ i j. refl }
  run_same false b b' (p0 ∷ p1 ∷ ps) = woven_same _ _ r.caps (bends_of false o (p0 ∷ p1 ∷ ps))
  run_same true b b' (p0 ∷ p1 ∷ ps) = then_same (woven_same _ _ false (bends_of true o (p0 ∷ p1 ∷ ps))) (faces_same _ _)

pub round_vertices : (closed : Bool) (o : Stroke) (r : Round) (kept : List Endpoint) (b b' : VertexId) → (round_piece closed o r b kept).vertices ≡ (round_piece closed o r b' kept).vertices
round_vertices closed o r kept b b' =
    let js = joints_of closed o kept in
    ap (λ (vs : List Vertex). vertices_of js ++ vs) ((run_same o r closed b b' kept).vertices (b.0 + vertex_count js) (b'.0 + vertex_count js))
