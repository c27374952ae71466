-- The proofs of the checks. For the layers above: `Laws` (what an accepted path is) and `Runs` (what runs its verbs make of its points).
pub mod Laws
pub mod Runs
pub mod Examples
-- below these: where a verb may stand and one pass over the verbs, one over the coordinates, and what each test of `check_path` tells
pub mod Placing
pub mod Bounding
pub mod Judging
