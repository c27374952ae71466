-- W-213, in the request's order. `Pattern`: the lengths, the offset and the cuts as advancements; `Marks`: the cuts on the edges of a run; `Dashes`: the open
-- runs between them; `Counts`: what counting an edge's cuts finds.
pub mod Pattern
pub mod Marks
pub mod Dashes
pub mod Counts
