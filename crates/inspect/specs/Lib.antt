-- `First` has two questions of the numbers below a bound, `Faults` what is asked of an index list in those terms, `Answer` the faults in their order; `Sound` says the same with no
-- test. `Together` is runs that follow one another, which the laws of a mesh are about; `Three` and `Marks` are for this crate's own functions.
pub mod First
pub mod Faults
pub mod Answer
pub mod Sound
pub mod Together
pub mod Three
pub mod Marks
