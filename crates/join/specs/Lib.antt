-- Rules 4 to 6 of document 01 and the source's `compute_join_side_positions`: `Edge` is rule 4, `Clip` rule 6, `Side` rule 5 on one side, `Record` both
-- sides and the endpoint's record with them set, `Source` the routine in its own order and words.
pub mod Edge
pub mod Clip
pub mod Side
pub mod Record
pub mod Source
