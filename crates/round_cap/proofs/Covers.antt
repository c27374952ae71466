-- Demand 3 of a round empty cap: its triangles are those of braid's square with its four arcs. Assumes nothing.
use Prim.Native.Nat.{ℕ, ◌+◌, ◌-◌, ◌^◌}
use mathlib.Core.Path.{◌≡◌, subst}
use mathlib.Core.List.{append-nil}
use native.Mathlib.Omega.{arith}
use lib.ListN.{length}
use lib.Ieee.{Float}
use Rattle.endpoint.specs.declared.Endpoint.{Endpoint}
use Rattle.endpoint.specs.declared.Side.{Side}
use Rattle.endpoint.specs.declared.Side.TheVariants.{Positive, Negative}
use Rattle.endpoint.specs.declared.VertexId.{VertexId}
use Rattle.plane.specs.declared.vector.Point.{Point}
use Rattle.pieces.specs.Piece.{Piece}
use Rattle.vertices.specs.Cap.{cap_triangles_of}
use Rattle.vertices.specs.Vertex.{triangle_of}
use Rattle.arc.specs.Arc.{arc_vertices, arc_piece}
use Rattle.arc.specs.declared.End.{End}
use Rattle.arc.proofs.Writing.{arc_length}
use Rattle.fans.specs.Weft.{then}
use Rattle.fans.proofs.Wefts.{then_assoc}
use Rattle.braid.specs.Weave.{added, woven}
use Rattle.triangles.specs.Attached.{Covers}
use Rattle.braid.specs.Round.{square_items}
use Rattle.braid.proofs.Square.{square_added, square_covers}
use Rattle.round_cap.specs.declared.Corners.{Corners}
use Rattle.round_cap.specs.Cap.{corner_of, corners_from, pair_of, corner_vertices, rim_of, half_weft, rim_weft, round_cap_piece}
use Rattle.round_cap.proofs.Counts.{pow_two}

module _ (k : ℕ) (base : VertexId) (e : Endpoint) (h : Float) where
  arc_size_lem : (side : Side) (a b : Point) → length (arc_vertices k (rim_of e h side) a b) ≡ 2 ^ k - 1
  arc_size_lem side a b = omega (arith, arc_length k (rim_of e h side) a b)

  -- the four arcs in a row
  abbrev quarter : Side → End → End → ℕ → Piece
  quarter side a b i = arc_piece k (rim_of e h side) i a b

  row : (q : Corners) (i : ℕ) → rim_weft k e h q i
      ≡ then (quarter Negative q.a q.b) (then (quarter Positive q.b q.c) (then (quarter Positive q.c q.d) (quarter Negative q.d q.a))) i
  unfolding rim_weft half_weft
  row q i = then_assoc (quarter Negative q.a q.b) (quarter Positive q.b q.c) (then (quarter Positive q.c q.d) (quarter Negative q.d q.a)) i

  pub cap_woven : (round_cap_piece k base e h).triangles ≡ woven (base.0 + 4) (square_items k base.0)
  unfolding then corner_vertices pair_of corners_from corner_of cap_triangles_of triangle_of woven
  cap_woven = rw (row, arc_size_lem, arc_size_lem, arc_size_lem, append-nil)

  pub cap_covers : Covers base.0 (base.0 + 2 ^ (k + 2)) (round_cap_piece k base e h).triangles
  cap_covers =
      let end : base.0 + 4 + added (square_items k base.0) ≡ base.0 + 2 ^ (k + 2) = omega (arith, square_added k base.0, pow_two k) in
      rw cap_woven (subst (λ (n : ℕ). Covers base.0 n (woven (base.0 + 4) (square_items k base.0))) end (square_covers k base.0))
