-- `Points` has document 01's cases, computed, and `Program` its example of what the program prints; `Unique` says that every public call has one outcome, and
-- `Cases` that its numbers tell its case.
pub mod Points
pub mod Program
pub mod Cases
pub mod Unique
