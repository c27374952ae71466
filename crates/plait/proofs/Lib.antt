-- `Spinning` is the parts of a joint as items, `Along` a run's; `Rounds` demand 3 of what a round run draws, `Numbering` that numbers play no part in its vertices,
-- `Bounds` how many those are at most.
pub mod Spinning
pub mod Along
pub mod Rounds
pub mod Numbering
pub mod Bounds
