-- `Cap` is the round empty cap.
pub mod Cap
