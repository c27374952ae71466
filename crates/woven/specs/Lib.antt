-- `Woven` is what a round run draws; `Counts` what arcs add.
pub mod Woven
pub mod Counts
