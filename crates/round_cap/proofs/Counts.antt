-- "2^(k+2) vertices and two triangles fewer"; and the vertices are the same, whatever number the first has. Assumes nothing.
use Prim.Native.Nat.{ℕ, ◌+◌, ◌-◌, ◌*◌, ◌^◌}
use mathlib.Core.Path.{◌≡◌, refl}
use native.Mathlib.Omega.{arith}
use lib.ListN.{length}
use lib.Ieee.{Float}
use lib.Pow.{pow-add}
use Rattle.endpoint.specs.declared.Endpoint.{Endpoint}
use Rattle.endpoint.specs.declared.Side.TheVariants.{Positive, Negative}
use Rattle.endpoint.specs.declared.VertexId.{VertexId}
use Rattle.vertices.specs.Cap.{cap_triangles_of}
use Rattle.arc.specs.Arc.{arc_piece}
use Rattle.arc.specs.declared.End.{End}
use Rattle.arc.specs.declared.Hub.{Hub}
use Rattle.arc.proofs.Triangles.{pow_some}
use Rattle.fans.specs.Weft.{then}
use Rattle.fans.proofs.Sizes.{Sized, Even, then_sized, arc_even}
use Rattle.round_cap.specs.declared.Corners.{Corners}
use Rattle.round_cap.specs.Cap.{corner_of, corners_from, pair_of, corner_vertices, square_piece, rim_of, half_weft, rim_weft, round_cap_piece}

pub pow_two : (k : ℕ) → 2 ^ (k + 2) ≡ 4 * 2 ^ k
pow_two k = omega (arith, pow-add 2 k 2)

module _ (k : ℕ) (e : Endpoint) (h : Float) where
  abbrev arc : ℕ
  arc = 2 ^ k - 1

  half_even : (first second : Hub) (a b c : End) (i : ℕ) → Even (arc + arc) (half_weft k first second a b c i)
  unfolding half_weft
  half_even first second a b c i =
      then_sized (λ (j : ℕ). arc_piece k first j a b) (λ (j : ℕ). arc_piece k second j b c) i (arc_even k first i a b) (λ j. arc_even k second j b c)

  rim_even : (q : Corners) (i : ℕ) → Even (arc + arc + (arc + arc)) (rim_weft k e h q i)
  unfolding rim_weft
  rim_even q i =
      let n = rim_of e h Negative in
      let p = rim_of e h Positive in
      then_sized (half_weft k n p q.a q.b q.c) (half_weft k p n q.c q.d q.a) i (half_even n p q.a q.b q.c i) (half_even p n q.c q.d q.a)

  cap_sized : (base : VertexId) → Sized (4 + (arc + arc + (arc + arc))) (2 + (arc + arc + (arc + arc))) (round_cap_piece k base e h)
  unfolding corner_vertices pair_of cap_triangles_of
  cap_sized base =
      let q = corners_from base in
      then_sized (λ (i : ℕ). square_piece base e h q) (rim_weft k e h q) base.0 (record { vertices = refl; triangles = refl }) (rim_even q)

  pub cap_counts : (base : VertexId) → (length (round_cap_piece k base e h).vertices ≡ 2 ^ (k + 2)) × (2 + length (round_cap_piece k base e h).triangles ≡ 2 ^ (k + 2))
  cap_counts base =
      let s = cap_sized base in
      (omega (arith, s.vertices, pow_two k, pow_some k), omega (arith, s.triangles, pow_two k, pow_some k))

  pub cap_vertices : (b b' : VertexId) → (round_cap_piece k b e h).vertices ≡ (round_cap_piece k b' e h).vertices
  unfolding then rim_weft half_weft corner_vertices corners_from corner_of
  cap_vertices b b' = refl
