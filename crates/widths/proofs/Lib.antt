-- `Copying` serves the loops, `Outcomes` says what an outcome is by the tests on the way to it; `Back` that each call undoes the other.
pub mod Copying
pub mod Outcomes
pub mod Back
