-- What is promised of the root. `Root` and `Answer` are the contract of the layer; `Compute` is the same root as a function that runs on
-- closed examples; `Steps` has what the private functions promise each other.
pub mod Root
pub mod Answer
pub mod Compute
pub mod Steps
