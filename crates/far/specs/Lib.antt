-- `Short` is what W-207 says of an edge's offset points, with retired refusal 5's words.
pub mod Short
