-- `Unique` says that each call has one outcome, `Mesh` that what the mesh call writes reads back, over `Places`: its places are f32 values; `Arcs` is for those of round runs.
pub mod Arcs
pub mod Mesh
pub mod Places
pub mod Unique
