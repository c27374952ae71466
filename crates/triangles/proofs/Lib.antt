-- `Having` says which vertices a triangle has, `Attaching` is of triangles that each share two with an earlier one.
pub mod Having
pub mod Attaching
