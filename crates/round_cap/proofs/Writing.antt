-- For the writers of a round empty cap: the square at the start of the lists, and the rim behind it. Assumes nothing.
use Prim.Native.Nat.{ℕ, ◌+◌, ◌≤◌}
use mathlib.Core.Path.{◌≡◌, refl, sym, subst}
use mathlib.Core.Bool.{true}
use mathlib.Core.List.{List}
use native.Mathlib.Omega.{arith}
use lib.Ieee.{Float}
use lib.ListN.{length}
use Rattle.endpoint.specs.Endpoint.{id_limit}
use Rattle.endpoint.specs.declared.Endpoint.{Endpoint}
use Rattle.endpoint.specs.declared.VertexId.{VertexId}
use Rattle.lists.specs.Over.{over}
use Rattle.pieces.specs.Piece.{flat_v, flat_s, flat_t, Piece, next_vertex, from, Lists, lent, Fits, Lays, Passes}
use Rattle.pieces.specs.declared.Place.{Place}
use Rattle.pieces.proofs.Pieces.{laid_start}
use Rattle.vertices.specs.Cap.{cap_triangles_of}
use Rattle.fans.specs.Weft.{then, WeftFits, WeftPasses}
use Rattle.fans.proofs.Wefts.{weft_front, weft_back, weft_both}
use Rattle.round_cap.specs.declared.Corners.{Corners}
use Rattle.round_cap.specs.Cap.{corners_from, pair_of, corner_vertices, square_piece, rim_weft, round_cap_piece}

-- ---- the square
module _ (base : VertexId) (e : Endpoint) (h : Float) (q : Corners) where
  pub square_room : (l : Lists) → Fits true (from base) (square_piece base e h q) l
      → (20 ≤ length l.vertices) × (4 ≤ length l.sources) × (6 ≤ length l.triangles) × (base.0 + 4 ≤ id_limit)
  unfolding corner_vertices pair_of cap_triangles_of
  square_room l f = (omega (arith, f.vertices refl), omega (arith, f.sources refl), omega (arith, f.triangles refl), omega (arith, f.numbers))

  pub square_passes : (v v' : List Float) (s s' t t' : List ℕ) → v' ≡ over (flat_v (corner_vertices e h q)) v → s' ≡ over (flat_s (corner_vertices e h q)) s
      → t' ≡ over (flat_t (cap_triangles_of base)) t
      → Passes true (from base) (square_piece base e h q) (lent v s t) (lent v' s' t') (record { base = base; vertices = 4; triangles = 2 })
  unfolding corner_vertices pair_of cap_triangles_of
  square_passes v v' s s' t t' ev es et = record { place = refl; lists = λ _. rw (ev, es, et) (sym (laid_start base (square_piece base e h q) (lent v s t))) }

-- ---- the rim behind it
module _ (k : ℕ) (base : VertexId) (e : Endpoint) (h : Float) where
  abbrev square : ℕ → Piece
  square i = square_piece base e h (corners_from base)

  abbrev rim : ℕ → Piece
  rim = rim_weft k e h (corners_from base)

  start : next_vertex (from base) ≡ base.0
  start = omega arith

  module _ {l : Lists} (f : Fits true (from base) (round_cap_piece k base e h) l) where
    whole : WeftFits true (from base) (then square rim) l
    whole = subst (λ (i : ℕ). Fits true (from base) (then square rim i) l) (sym start) f

    pub square_fits : Fits true (from base) (square_piece base e h (corners_from base)) l
    square_fits = weft_front square rim whole

    pub rim_fits : {l1 : Lists} {k1 : Place} → Passes true (from base) (square_piece base e h (corners_from base)) l l1 k1
        → WeftFits true k1 (rim_weft k e h (corners_from base)) l1
    rim_fits p = weft_back square rim p whole

  pub cap_lays : {l l1 l2 : Lists} {k1 k2 : Place} → Passes true (from base) (square_piece base e h (corners_from base)) l l1 k1
      → WeftPasses true k1 (rim_weft k e h (corners_from base)) l1 l2 k2 → Lays true (from base) (round_cap_piece k base e h) l l2
  cap_lays {l} {l1} {l2} {k1} {k2} p r = (subst (λ (i : ℕ). Passes true (from base) (then square rim i) l l2 k2) start (weft_both square rim p r)).lists
