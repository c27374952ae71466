-- Why refusal 5 is retired. `Never` has it for any points inside the limits, `Path` for an accepted path, `Course` for one run, `Edge` for one edge;
-- `Ranges` is what the limits tell of the numbers within them.
pub mod Never
pub mod Path
pub mod Course
pub mod Edge
pub mod Ranges
-- below these, of two points and the offset between them and a side: how far apart not near is, the bound of an offset, and two points that it moves.
-- What f32 does to any numbers is in `rounding`
pub mod Apart
pub mod Offsets
pub mod Moved
