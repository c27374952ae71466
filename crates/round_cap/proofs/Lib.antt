-- `Counts` is how many vertices and triangles a round empty cap has, `Covers` demand 3 of it, `Rim` how far its vertices lie from the centre; `Writing` is for its writers.
pub mod Counts
pub mod Covers
pub mod Rim
pub mod Writing
