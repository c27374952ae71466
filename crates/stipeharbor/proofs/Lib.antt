-- `Unique` and `Measures` say that each exported call has one outcome. `Passing` is for the functions: answers passed on.
pub mod Passing
pub mod Unique
pub mod Measures
