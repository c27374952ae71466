-- `Parts` has how long the parts of a file are, `Fine` what a fine triangle has.
pub mod Fine
pub mod Parts
