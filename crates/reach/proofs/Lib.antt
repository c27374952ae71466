-- How far a stripe reaches: `Reach` has the theorems of the mesh call's own list. In order below it: what accepted options tell of the half width; how far a number lies from a coordinate,
-- in half widths; an edge and its sides; a joint's vertices; advancements; the joints of a run; the arcs woven into it, and what their vertices have; what a run draws, of any points inside the
-- limits; how many points the cut runs have; the list as the call leaves it; all runs.
pub mod Widths
pub mod Beside
pub mod Edges
pub mod Joints
pub mod Advancements
pub mod Course
pub mod Arcs
pub mod Rims
pub mod Drawn
pub mod Dashes
pub mod Mesh
pub mod Runs
pub mod Reach
