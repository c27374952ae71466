-- `Fine` has what the private writers are lent.
pub mod Fine
