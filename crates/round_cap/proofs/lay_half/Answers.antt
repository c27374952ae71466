-- `round_cap::lay_half` meets its contract. Assumes nothing.
use Prim.Native.Nat.{ℕ}
use Rattle.pieces.specs.Piece.{Piece}
use Rattle.arc.specs.Arc.{arc_piece}
use Rattle.fans.proofs.Wefts.{weft_front, weft_back, weft_both}
use Rattle.round_cap.specs.Cap.{half_weft}
use Rattle.round_cap.proofs.lay_half.Goals as goal

pub lay_arc-between-requires : goal.lay_arc-between-requires
unfolding half_weft
lay_arc-between-requires c =
    let f : ℕ → Piece = λ (i : ℕ). arc_piece c.args.detail c.args.first i c.args.a c.args.b in
    let g : ℕ → Piece = λ (i : ℕ). arc_piece c.args.detail c.args.second i c.args.b c.args.c in
    weft_front f g c.requires

pub lay_arc-requires : goal.lay_arc-requires
unfolding half_weft
lay_arc-requires c =
    let f : ℕ → Piece = λ (i : ℕ). arc_piece c.args.detail c.args.first i c.args.a c.args.b in
    let g : ℕ → Piece = λ (i : ℕ). arc_piece c.args.detail c.args.second i c.args.b c.args.c in
    weft_back f g c.lay_arc-between.ensures c.requires

pub returns : goal.returns
unfolding half_weft
returns c =
    let f : ℕ → Piece = λ (i : ℕ). arc_piece c.args.detail c.args.first i c.args.a c.args.b in
    let g : ℕ → Piece = λ (i : ℕ). arc_piece c.args.detail c.args.second i c.args.b c.args.c in
    weft_both f g c.lay_arc-between.ensures c.lay_arc.ensures
