-- Rule 1: `Points` reads the endpoints of a run off its coordinates, `Kept` says which are kept, `Looks` what the looks for the second and the last of
-- them find.
pub mod Points
pub mod Kept
pub mod Looks
pub mod Held
