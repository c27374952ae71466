-- `Calls` is what each call does to the words of a state and to both lists. `Words` is a state as words, and back, by the `Fields`. That what comes back is what
-- was is proofs/Back.antt.
pub mod Fields
pub mod Words
pub mod Calls
