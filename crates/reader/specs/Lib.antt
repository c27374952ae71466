-- `Reads` is what the reader answers and leaves in the lists, as document 01 writes it, by the form of the text: an `Outcome`, whose `Answer` has the
-- terms of document 01's table. `Counts` is what events come to, `Pass` a pass over bytes and `Read` the outcome by two of them. That both are one is
-- proofs/Meets.antt.
pub mod Counts
pub mod Pass
pub mod Answer
pub mod Outcome
pub mod Read
pub mod Reads
