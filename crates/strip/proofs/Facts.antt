-- Demand 3 of a run's triangles. The plan: a strip is a ladder. It goes on by one vertex at a time, on the positive or on the negative side, and each such
-- move is one triangle (`Ladder`); `Moves` says which moves an open and a closed run have. From there come `Counts`, and `Named`. By `Fresh`, that each move
-- is to a vertex which the triangle before does not have, come `Shares` and `Owns`. Assumes nothing.
pub mod Ladder
mod Moves
mod Fresh
pub mod Counts
pub mod Shares
pub mod Owns
pub mod Named
