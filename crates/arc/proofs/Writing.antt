-- What the writers of an arc did, as one piece: its middle, and behind it both halves. Assumes nothing.
use Prim.Native.Nat.{ℕ, zero, suc, ◌+◌, ◌-◌, ◌*◌, ◌^◌}
use mathlib.Core.Path.{◌≡◌, refl, ◌∙◌, subst}
use mathlib.Core.Bool.{true}
use mathlib.Core.List.{List, map, map-append}
use mathlib.Core.Logic.{◌≢◌}
use native.Mathlib.Omega.{arith}
use borrow.Rule.Slice.PartMut.{mid_of, put_mid}
use lib.Ieee.{Float}
use lib.ListN.{length, length-append}
use Rattle.plane.specs.declared.vector.Point.{Point}
use Rattle.lists.specs.Over.{over, flat}
use Rattle.pieces.specs.Piece.{floats_of, sources_of, next_vertex, Piece, joined, Lists, lent, Fits, Passes}
use Rattle.pieces.specs.declared.Place.{Place}
use Rattle.pieces.proofs.Pieces.{laid_parts, puts_both, fits_front, fits_back}
use Rattle.triangles.specs.Tri.{numbers_of}
use Rattle.vertices.specs.Vertex.{triangle_of}
use Rattle.arc.specs.Arc.{middle_of, arc_normals, arc_triangles, arc_vertex_of, arc_vertices, arc_piece, middle_piece, fan_piece}
use Rattle.arc.specs.declared.End.{End}
use Rattle.arc.specs.declared.Hub.{Hub}

-- ---- the middle, at a place
module _ (k : Place) (hub : Hub) (a b mid : End) (is : mid.vertex.0 ≡ next_vertex k) where
  pub middle_passes : (v v' : List Float) (s s' t t' : List ℕ) → Fits true k (middle_piece hub (next_vertex k) a b mid.normal) (lent v s t)
      → v' ≡ over (floats_of (arc_vertex_of hub mid.normal)) (mid_of (5 * k.vertices) (length v - 5 * k.vertices) v)
      → s' ≡ over (sources_of (arc_vertex_of hub mid.normal)) (mid_of k.vertices (length s - k.vertices) s)
      → t' ≡ over (numbers_of (triangle_of a.vertex mid.vertex b.vertex)) (mid_of (3 * k.triangles) (length t - 3 * k.triangles) t)
      → Passes true k (middle_piece hub (next_vertex k) a b mid.normal) (lent v s t)
      (lent (put_mid (5 * k.vertices) (length v - 5 * k.vertices) v v') (put_mid k.vertices (length s - k.vertices) s s') (put_mid (3 * k.triangles) (length t - 3 * k.triangles) t t'))
      (record { base = k.base; vertices = k.vertices + 1; triangles = k.triangles + 1 })
  unfolding flat triangle_of
  middle_passes v v' s s' t t' f e g h = record { place = refl; lists = λ _. laid_parts k (middle_piece hub (next_vertex k) a b mid.normal) v v' s s' t t' f e g (h ∙ rw is) }

-- ---- an arc's vertices are 2 ^ k - 1
pub arc_length : (k : ℕ) (hub : Hub) (a b : Point) → 1 + length (arc_vertices k hub a b) ≡ 2 ^ k
unfolding arc_vertices arc_normals
arc_length zero hub a b = refl
arc_length (suc k) hub a b =
    let m = middle_of hub.ahead a b in
    rw (map-append (arc_vertex_of hub) (arc_normals k hub.ahead a m) (arc_normals k hub.ahead m b), length-append (map (arc_vertex_of hub) (arc_normals k hub.ahead a m)) (map (arc_vertex_of hub) (arc_normals k hub.ahead m b)))
    (omega (arith, arc_length k hub a m, arc_length k hub m b))

-- ---- a middle and two arcs, at a place
module _ (k : Place) (near far : Hub) (a b mid : End) (n : ℕ) where
  abbrev one : Piece
  one = middle_piece far (next_vertex k) a b mid.normal

  abbrev first : ℕ → Piece
  first i = arc_piece n near i a mid

  abbrev second : ℕ → Piece
  second i = arc_piece n far i mid b

  abbrev whole : Piece
  whole = fan_piece n near far (next_vertex k) a b mid

  module _ {l : Lists} (f : Fits true k whole l) where
    pub middle_fits : Fits true k one l
    middle_fits = fits_front one (joined (first (next_vertex k + 1)) (second (next_vertex k + 2 ^ n))) f

    module _ {l1 : Lists} {k1 : Place} (e : Passes true k one l l1 k1) where
      next1 : next_vertex k1 ≡ next_vertex k + 1
      next1 = rw e.place (omega arith)

      both_fit : Fits true k1 (joined (first (next_vertex k1)) (second (next_vertex k + 2 ^ n))) l1
      both_fit = rw next1 (fits_back one (joined (first (next_vertex k + 1)) (second (next_vertex k + 2 ^ n))) f e)

      pub first_fits : Fits true k1 (first (next_vertex k1)) l1
      first_fits = fits_front (first (next_vertex k1)) (second (next_vertex k + 2 ^ n)) both_fit

      module _ {l2 : Lists} {k2 : Place} (g : Passes true k1 (first (next_vertex k1)) l1 l2 k2) where
        next2 : next_vertex k2 ≡ next_vertex k + 2 ^ n
        next2 = rw g.place (omega (arith, next1, arc_length n near a.normal mid.normal))

        pub second_fits : Fits true k2 (second (next_vertex k2)) l2
        second_fits = rw next2 (fits_back (first (next_vertex k1)) (second (next_vertex k + 2 ^ n)) both_fit g)

        pub fan_passes : {l3 : Lists} {k3 : Place} → Passes true k2 (second (next_vertex k2)) l2 l3 k3 → Passes true k whole l l3 k3
        fan_passes {l3} {k3} h =
            let h' : Passes true k2 (second (next_vertex k + 2 ^ n)) l2 l3 k3 = subst (λ (i : ℕ). Passes true k2 (second i) l2 l3 k3) next2 h in
            let g' : Passes true k1 (first (next_vertex k + 1)) l1 l2 k2 = subst (λ (i : ℕ). Passes true k1 (first i) l1 l2 k2) next1 g in
            puts_both e (puts_both g' h')

-- ---- an arc is such a one
module _ (i : ℕ) (hub : Hub) (a b mid : End) (at : mid.vertex.0 ≡ i) (is : mid.normal ≡ middle_of hub.ahead a.normal b.normal) where
  pub arc_halves : (level : ℕ) → level ≢ 0 → arc_piece level hub i a b ≡ fan_piece (level - 1) hub hub i a b mid
  unfolding arc_vertices arc_normals arc_triangles
  arc_halves zero f = absurd (f refl)
  arc_halves (suc n) f =
      let e : suc n - 1 ≡ n = omega arith in
      rw (e, at, is, map-append (arc_vertex_of hub) (arc_normals n hub.ahead a.normal (middle_of hub.ahead a.normal b.normal)) (arc_normals n hub.ahead (middle_of hub.ahead a.normal b.normal) b.normal))
