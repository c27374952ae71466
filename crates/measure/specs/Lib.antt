-- `Measure` is what measuring answers, `Part` what the call for a run's part answers and hands back; `Answer` has the numbers of both. `Judged` is for the call itself. `Room` is the request's sentence
-- on room, and `Wrote` that the part is what the run wrote.
pub mod Answer
pub mod Measure
pub mod Part
pub mod Judged
pub mod Room
pub mod Wrote
