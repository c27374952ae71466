-- `Sizes` is how many vertices and triangles a joint brings; `Pending` joints one after another; `Writing` is for this crate's writers.
pub mod Sizes
pub mod Pending
pub mod Writing
