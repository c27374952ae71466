-- `Stays`: what W-213's float arithmetic keeps.
pub mod Stays
