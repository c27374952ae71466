-- Laws for whoever writes pieces, or counts them.
pub mod Pieces
