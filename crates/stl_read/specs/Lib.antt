-- `Fine` has what the private writer is lent.
pub mod Fine
