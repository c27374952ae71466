-- The plane: `F32` names the rounded operations, `Vector` what is built of them, `Normal` is lyon's `compute_normal`.
pub mod F32
pub mod Vector
pub mod Normal
