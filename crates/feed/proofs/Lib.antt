-- `Feeding`: the marks to come one by one; `Trailing`: the points of a dash one by one, and the dashes.
pub mod Feeding
pub mod Trailing
