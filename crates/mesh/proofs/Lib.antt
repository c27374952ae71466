-- `Demand3` is the mission's sentence, proved of the definition. `Rooms` says that an accepted path is small enough, and that a mesh fits its lists; `Numbers`
-- that its triangles name its own vertices.
pub mod Demand3
pub mod Rooms
pub mod Numbers
