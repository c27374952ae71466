-- What is drawn of a run's dashes is the mesh of the runs that they are: dash by dash, each nothing or an open run of two kept points or more. Assumes nothing.
use Prim.Native.Nat.{◌+◌}
use mathlib.Core.Path.{◌≡◌, refl, sym, ap, ◌∙◌}
use mathlib.Core.Bool.{Bool, true, false, cond}
use mathlib.Core.List.{List, [], ◌∷◌}
use native.Mathlib.Omega.{arith}
use borrow.Author.Tests.{lt-ltb}
use lib.Dec.{ltb}
use lib.ListN.{length}
use Rattle.endpoint.specs.Endpoint.{vertex_after}
use Rattle.endpoint.specs.declared.Endpoint.{Endpoint}
use Rattle.endpoint.specs.declared.VertexId.{VertexId}
use Rattle.pieces.specs.Piece.{Piece, joined, from}
use Rattle.options.specs.Options.{is_round}
use Rattle.options.specs.declared.Stroke.{Stroke}
use Rattle.path.specs.Runs.{Run}
use Rattle.kept.specs.Kept.{kept_points}
use Rattle.woven.specs.Woven.{round_piece}
use Rattle.plait.proofs.Rounds.{round_none}
use Rattle.cuts.specs.Runs.{lines_of}
use Rattle.dashed.specs.Dashed.{dash_piece, dashes_piece}
use Rattle.run.specs.Run.{strip_shape, round_of, shape_count, shape_vertices, shape_triangles, shape_of, shape_piece}
use Rattle.run.proofs.Whole.{round_is, length_shape}
use Rattle.runs.specs.Runs.{mesh_vertices, mesh_triangles, mesh_piece}

pub two_kept : (p q : Endpoint) (ks : List Endpoint) → ltb 1 (length (p ∷ q ∷ ks)) ≡ true
two_kept p q ks = lt-ltb 1 (length (p ∷ q ∷ ks)) (omega arith)

module _ (o : Stroke) where
  -- an open run of two kept points or more, round or not
  line_is : (base : VertexId) (p q : Endpoint) (ks : List Endpoint) → round_piece false o (round_of o) base (p ∷ q ∷ ks) ≡ shape_piece o false base (strip_shape false o (p ∷ q ∷ ks))
  unfolding is_round round_of shape_vertices shape_triangles
  line_is base p q ks = go (is_round o) refl
    where
      go : (round : Bool) → is_round o ≡ round → round_piece false o (round_of o) base (p ∷ q ∷ ks) ≡ shape_piece o false base (strip_shape false o (p ∷ q ∷ ks))
      go true h = rw h (sym (round_is o base false p q ks))
      go false h = rw h (round_none false o (round_of o) base p q ks h)

  shape_is : (d : List Endpoint) (p q : Endpoint) (ks : List Endpoint) → kept_points o.near false d ≡ p ∷ q ∷ ks → shape_of o false d ≡ strip_shape false o (p ∷ q ∷ ks)
  unfolding shape_of
  shape_is d p q ks e = rw e

  -- the dashes, where their vertices are numbered from base
  abbrev lines_piece : VertexId → List (Run Endpoint) → Piece
  lines_piece base rs = record { vertices = mesh_vertices o rs; triangles = mesh_triangles o base.0 rs }

  lines_are : (base : VertexId) (ds : List (List Endpoint)) → dashes_piece o (round_of o) base ds ≡ lines_piece base (lines_of o.near ds)
  unfolding dashes_piece dash_piece lines_of mesh_vertices mesh_triangles
  lines_are base [] = refl
  lines_are base (d ∷ ds) = go (kept_points o.near false d) refl (λ b. lines_are b ds)
    where
      go : (ks : List Endpoint) → kept_points o.near false d ≡ ks → ((b : VertexId) → dashes_piece o (round_of o) b ds ≡ lines_piece b (lines_of o.near ds))
          → joined (dash_piece o (round_of o) base ks) (dashes_piece o (round_of o) (vertex_after base (length (dash_piece o (round_of o) base ks).vertices)) ds)
          ≡ lines_piece base (cond (ltb 1 (length ks)) (record { closed = false; points = d } ∷ lines_of o.near ds) (lines_of o.near ds))
      go [] e ih = let n : base.0 + 0 ≡ base.0 = omega arith in rw n (ih base)
      go (p ∷ []) e ih = let n : base.0 + 0 ≡ base.0 = omega arith in rw n (ih base)
      go (p ∷ q ∷ ks) e ih =
          let s = strip_shape false o (p ∷ q ∷ ks) in
          ap (λ (x : Piece). joined x (dashes_piece o (round_of o) (vertex_after base (length x.vertices)) ds)) (line_is base p q ks)
          ∙ rw (two_kept p q ks, shape_is d p q ks e, length_shape o s, ih (vertex_after base (shape_count s)))

  pub lines_piece_lem : (base : VertexId) (ds : List (List Endpoint)) → dashes_piece o (round_of o) base ds ≡ mesh_piece o (from base) (lines_of o.near ds)
  lines_piece_lem base ds = let n : base.0 + 0 ≡ base.0 = omega arith in rw n (lines_are base ds)
