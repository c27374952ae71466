-- `Answer` is what the mesh call answers, in the terms of document 01's table; `Mesh` what it answers and what it leaves in the lists.
-- `Demand3` is the mission's sentence over them; `Parts` is for this crate's own functions.
pub mod Answer
pub mod Mesh
pub mod Demand3
pub mod Parts
