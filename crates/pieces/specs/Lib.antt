-- `Piece` is what is written where, in one vocabulary for every layer.
pub mod Piece
