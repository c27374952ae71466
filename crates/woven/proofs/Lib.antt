-- `Sizes` is how many triangles are woven; `Twice` what two passes leave, the second over the first's triangles; `Runs` a run of either kind.
pub mod Sizes
pub mod Twice
pub mod Runs
