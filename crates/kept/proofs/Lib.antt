-- For the layers above: `Indexed` (endpoints by their index), `Looks` (what the looks say of the kept points), `Lengths` (how many are kept), `Keeping` (what
-- kept points have) and `Numbered` (so their numbers are below the limit); `Further` is below these.
pub mod Indexed
pub mod Looks
pub mod Lengths
pub mod Keeping
pub mod Numbered
pub mod Further
