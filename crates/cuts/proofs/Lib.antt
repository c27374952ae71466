-- For the layers above: `Capping`, what a count that stops at one more than is accepted still tells; `Enough`, that nothing hangs on how many cuts are looked for on
-- an edge; `Counting`, the count along a run, and `Passing`, the pass over the verbs, with the first cut's number;
-- `Checked`, what is accepted behind 26; `Runs`, the cut runs and how many points they have. `Examples` are small paths computed.
pub mod Capping
pub mod Enough
pub mod Counting
pub mod Passing
pub mod Checked
pub mod Runs
pub mod Examples
