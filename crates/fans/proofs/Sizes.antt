-- How many vertices and triangles arcs and fans have: as many of each; and what is written one behind the other. Assumes nothing.
use Prim.Native.Nat.{ℕ, zero, suc, ◌+◌, ◌-◌, ◌^◌, ◌≤◌}
use mathlib.Core.Path.{◌≡◌, refl}
use mathlib.Core.Bool.{Bool, true, false, cond}
use mathlib.Core.List.{List, ◌++◌}
use native.Mathlib.Omega.{arith}
use lib.ListN.{length, length-append}
use Rattle.plane.specs.declared.vector.Point.{Point}
use Rattle.endpoint.specs.declared.EndpointData.{EndpointData}
use Rattle.endpoint.specs.declared.Side.{Side}
use Rattle.endpoint.specs.declared.VertexId.{VertexId}
use Rattle.arc.specs.Arc.{arc_piece, recorded, cap_piece}
use Rattle.arc.specs.declared.End.{End}
use Rattle.arc.specs.declared.Hub.{Hub}
use Rattle.arc.proofs.Triangles.{pow_some, arc_count}
use Rattle.arc.proofs.Writing.{arc_length}
use Rattle.pieces.specs.Piece.{Piece}
use Rattle.triangles.specs.Tri.{Tri}
use Rattle.fans.specs.declared.Round.{Round}
use Rattle.fans.specs.Weft.{faces, given, then}
use Rattle.fans.specs.Fans.{gets_arc, side_arc, side_weft, start_fan, end_fan, arc_size}

-- a piece of n vertices and m triangles; as many of each
pub record Sized (n m : ℕ) (p : Piece) : Type 0 where
  pub vertices : length p.vertices ≡ n
  pub triangles : length p.triangles ≡ m

abbrev pub Even : ℕ → Piece → Type 0
Even n p = Sized n n p

pub faces_sized : (ts : List Tri) (i : ℕ) → Sized 0 (length ts) (faces ts i)
faces_sized ts i = record { vertices = refl; triangles = refl }

pub then_sized : {a b c d : ℕ} (f g : ℕ → Piece) (i : ℕ) → Sized a b (f i) → ((j : ℕ) → Sized c d (g j)) → Sized (a + c) (b + d) (then f g i)
unfolding then
then_sized f g i x y =
    let z = y (i + length (f i).vertices) in
    record { vertices = rw length-append (omega (arith, x.vertices, z.vertices)); triangles = rw length-append (omega (arith, x.triangles, z.triangles)) }

pub arc_even : (k : ℕ) (hub : Hub) (i : ℕ) (a b : End) → Even (2 ^ k - 1) (arc_piece k hub i a b)
arc_even k hub i a b = record { vertices = omega (arith, arc_length k hub a.normal b.normal); triangles = omega (arith, arc_count k i a.vertex.0 b.vertex.0) }

cap_even : (k : ℕ) (hub : Hub) (source i : ℕ) (a b : End) → Even (2 ^ suc k - 1) (cap_piece k hub source i a b)
cap_even k hub source i a b =
    let m : End = record { vertex = record { 0 = i }; normal = hub.ahead } in
    let p = arc_piece k (recorded hub source) (i + 1) a m in
    let q = arc_piece k hub (i + 2 ^ k) m b in
    let x = arc_even k (recorded hub source) (i + 1) a m in
    let y = arc_even k hub (i + 2 ^ k) m b in
    record {
      vertices = two (length p.vertices) (length q.vertices) (length (p.vertices ++ q.vertices)) (length-append p.vertices q.vertices) x.vertices y.vertices;
      triangles = two (length p.triangles) (length q.triangles) (length (p.triangles ++ q.triangles)) (length-append p.triangles q.triangles) x.triangles y.triangles;
    }
  where
    two : (x y z : ℕ) → z ≡ x + y → x ≡ 2 ^ k - 1 → y ≡ 2 ^ k - 1 → suc z ≡ 2 ^ suc k - 1
    two x y z e f g = omega (arith, pow_some k)

pub given_even : (b : Bool) (n i : ℕ) (f : ℕ → Piece) → Even n (f i) → Even (cond b n 0) (given b f i)
given_even true n i f h = h
given_even false n i f h = record { vertices = refl; triangles = refl }

pub side_even : (r : Round) (e : EndpointData) (side : Side) (first : VertexId) (ahead : Point) (i : ℕ) → Even (arc_size (gets_arc r.joins e side) r.detail) (side_weft r e side first ahead i)
unfolding side_weft
side_even r e side first ahead i = given_even (gets_arc r.joins e side) (2 ^ r.detail - 1) i (side_arc r.detail e side first ahead) (arc_even r.detail _ i _ _)

module _ (k : ℕ) (e : EndpointData) (n p : VertexId) (outward : Point) (i : ℕ) where
  pub start_even : Even (2 ^ suc k - 1) (start_fan k e n p outward i)
  unfolding start_fan
  start_even = cap_even k _ _ i _ _

  pub end_even : Even (2 ^ suc k - 1) (end_fan k e n p outward i)
  unfolding end_fan
  end_even = cap_even k _ _ i _ _

pub few : (k : ℕ) → k ≤ 6 → 2 ^ k ≤ 64
few zero h = omega arith
few (suc zero) h = omega arith
few (suc (suc zero)) h = omega arith
few (suc (suc (suc zero))) h = omega arith
few (suc (suc (suc (suc zero)))) h = omega arith
few (suc (suc (suc (suc (suc zero))))) h = omega arith
few (suc (suc (suc (suc (suc (suc zero)))))) h = omega arith
few (suc (suc (suc (suc (suc (suc (suc k))))))) h = absurd (omega arith)
