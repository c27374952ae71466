-- `Tri` is a triangle as its three vertex numbers; `Facts` what is said of the triangles of a run: their own, naming every vertex, each sharing two with the one before.
pub mod Tri
pub mod Facts
pub mod Attached
