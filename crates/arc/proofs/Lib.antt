-- `Triangles` is demand 3 of an arc, `Lengths` that its vertices are as far from the centre as h is, within a millionth; `Writing` is for its writers.
pub mod Triangles
pub mod Lengths
pub mod Writing
