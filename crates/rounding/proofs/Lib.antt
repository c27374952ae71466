-- How far f32 strays from exact arithmetic, over whole numbers: a float is ±a / c, and what an operation makes is a whole number of units of 2 ^ -149.
-- In order: a fraction rounded; the scales that bounds are stated in; signed numbers; the operations by their operands' values; what they make, within
-- a limit; the difference of two floats; squared lengths; roots, and components over a length.
-- Not here: points (`plane`), what the checks of a call tell of its numbers (far's `Ranges`), the limits that say near and short (far's `Apart`), the
-- offset of an edge (far's `Offsets`), and the root itself (`root`). Assumes nothing.
pub mod Rounding
pub mod Scales
pub mod Signed
pub mod Values
pub mod Results
pub mod Differences
pub mod Squares
pub mod Roots
