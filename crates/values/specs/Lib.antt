-- `Meaning` is what a text of the form means, as the documents write it, with a `Pen` for what its letters and numbers come to. The others are the same
-- byte by byte, for the code: `Events`, what is `Known` between two bytes, and the `State`. That both are one is proofs/Means.antt.
pub mod Pen
pub mod Known
pub mod Events
pub mod State
pub mod Meaning
