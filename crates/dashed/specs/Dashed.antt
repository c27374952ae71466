-- W-213: what is drawn of the dashes of a run. Assumes nothing.
use Rattle.std.specs.Prelude.{ℕ, Bool, false, List, [], ◌∷◌, Float, length}
use Rattle.endpoint.specs.Endpoint.{vertex_after}
use Rattle.endpoint.specs.declared.Endpoint.{Endpoint}
use Rattle.endpoint.specs.declared.VertexId.{VertexId}
use Rattle.pieces.specs.Piece.{Piece, none, joined}
use Rattle.options.specs.declared.Stroke.{Stroke}
use Rattle.kept.specs.Kept.{kept_points}
use Rattle.fans.specs.declared.Round.{Round}
use Rattle.woven.specs.Woven.{round_piece}
use Rattle.dashes.specs.Pattern.{worn_of, first_cut}
use Rattle.dashes.specs.Dashes.{dashes_of}
use Rattle.cuts.specs.Cuts.{kept_cuts}

-- of the kept points of a dash: an open run's piece; "a dash left with one point is drawn as nothing"
unfoldable pub dash_piece : Stroke → Round → VertexId → List Endpoint → Piece
dash_piece o r base [] = none
dash_piece o r base (p ∷ []) = none
dash_piece o r base (p ∷ q ∷ ps) = round_piece false o r base (p ∷ q ∷ ps)

-- "Cut runs pass through rule 1 again", each a run of its own: its vertices are numbered behind the last one's
unfoldable pub dashes_piece : Stroke → Round → VertexId → List (List Endpoint) → Piece
dashes_piece o r base [] = none
dashes_piece o r base (d ∷ ds) =
    let piece = dash_piece o r base (kept_points o.near false d) in
    joined piece (dashes_piece o r (vertex_after base (length piece.vertices)) ds)

-- of the kept points of a run, by the pattern's lengths and its offset
abbrev pub run_piece : Stroke → Round → VertexId → Bool → List Float → Float → List Endpoint → Piece
run_piece o r base closed ds offset ps = dashes_piece o r base (dashes_of closed ds offset ps)

-- how many cuts fall on its edges
abbrev pub run_cuts : Bool → List Float → Float → List Endpoint → ℕ
run_cuts closed ds offset ps = kept_cuts closed ds (first_cut ds (worn_of ds offset)) ps
