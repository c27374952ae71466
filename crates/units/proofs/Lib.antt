-- How long a vector is that f32 has normalized, over whole numbers: a float is ±m units of 2 ^ -149, and an error is counted in parts of 2 ^ 24.
-- In order: a fraction rounded, relatively; the operations; lengths and quotients over any numbers; unit vectors; the sum of two along the first; the join's normal, at most 223.
-- Assumes nothing.
pub mod Relative
pub mod Operations
pub mod Lengths
pub mod Vectors
pub mod Dots
pub mod Normals
