-- `Mesh` says what both questions come to of every mesh that the mesh call writes, `Unique` that each has one answer.
pub mod Mesh
pub mod Unique
