-- The proofs of the options. For the layers above: `Levels` (how deep arcs go) and `Accepted` (what an answer of 0 is). `Examples` are computed.
pub mod Examples
pub mod Levels
pub mod Accepted
