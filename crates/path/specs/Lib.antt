-- What is promised of the checks: `Limits` how long a path may be, `Verbs` and `Coordinates` the parts of refusals 2, 3 and 4, and `Path` puts these in
-- the table's order. `Runs` is for the layers above: the runs that a path's verbs make of its points.
pub mod Limits
pub mod Verbs
pub mod Coordinates
pub mod Path
pub mod Runs
