-- `Page` is what the program prints of a path text.
pub mod Page
