-- `Fine` has what a fine triangle of a file has.
pub mod Fine
