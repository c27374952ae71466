-- Laws for the layers above: `Joints` of vertices and their count, `Triangles`, `Steps` of the state, `Counting` of a step counted, `Pending` of joints passed in turn, `Runs` joins the
-- steps to rule 9's sections, `Facts` is demand 3. `Writing` serves this crate's own functions, and `Examples` computes two runs. Assumes nothing.
pub mod Joints
pub mod Triangles
pub mod Steps
pub mod Counting
pub mod Pending
pub mod Runs
pub mod Facts
mod Writing
mod Examples
