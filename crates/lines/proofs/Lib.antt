pub mod Back
pub mod Behind
mod Examples
pub mod Pairs
pub mod Patterns
pub mod Placing
pub mod Spaces
pub mod Spelling
