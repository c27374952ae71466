-- `Room` and `Wrote` prove the request's sentences, `Unique` that each call has one outcome. `Judging` is for the functions: what a pass tells, and refusals 1 to 4 and 26.
pub mod Room
pub mod Wrote
pub mod Unique
mod Judging
